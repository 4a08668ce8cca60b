-- The whole text is a stream of its commands, within the limits.
use Rattle.std.proofs.Common.{◌≡◌, inl, inr, ℕ, ◌+◌, ◌≤◌, false, List, [], ◌∷◌, ◌++◌, length, length-append, Some, refl, sym, ap, ◌∙◌, subst, arith, append_assoc, codes, Contains}
use Rattle.std.specs.List.{AllByRecursion, flat_map}
use Rattle.std.proofs.lemmas.List.{append-nil}
use Rattle.swh_base.specs.Limits.{body_limit}
use Rattle.swh_base.specs.declared.kind.Kind.{Kind}
use Rattle.swh_base.specs.declared.kind.Kind.TheVariants.{Content, Directory, Revision as RevisionKind, Release as ReleaseKind, Snapshot}
use Rattle.swh_base.specs.declared.name.Name.{Name}
use Rattle.swh_base.specs.Snapshot.{SnapshotBranch, BranchTarget, ToObject, ToBranch, ToNothing}
use Rattle.swh_base.specs.Text.{IsRef}
use Rattle.swh_base.proofs.Splits.{absent}
use Rattle.swh_model.specs.Archive.{Bodies, body_of}
use Rattle.swh_graph.proofs.Lists.{in_first, in_rest}
use Rattle.swh_fastwrite.specs.Text.{tip_text, cook_branch}
use Rattle.swh_marks.specs.Marks.{mark_of}
use Rattle.swh_fastcook.specs.Stream.{IsCommit, IsTag, IsTextOf, AreObjectTexts, object_tip, target_tip, tips_text, AreTipsOf, IsLast, IsStreamText}
use Rattle.swh_fastgrammar.specs.declared.command.Command.{Command}
use Rattle.swh_fastgrammar.specs.declared.command.Command.TheVariants.{Reset}
use Rattle.swh_fastgrammar.specs.declared.command.Start.TheVariants.{NoTip, Of}
use Rattle.swh_fastgrammar.specs.Grammar.{IsStream}
use Rattle.swh_fastgrammar.specs.Row.{text_of}
use Rattle.swh_fastrows.specs.declared.row_source.TheConstants.{STREAM_LIMIT}
use Rattle.swh_fastrows.specs.Within.{LineFits}
use Rattle.swh_fastrows.specs.Outcome.{IsStreamWithin}
use Rattle.swh_fastrows.proofs.Fitting.{line_fits}
use Rattle.swh_roundtrip.specs.Commands.{AreTips, AreCommandsOf, AreObjectCommands, object_tips, branch_tips, AreRootTips, AreLastCommands, AreStreamCommands}
use Rattle.swh_roundtrip.proofs.GoodLines.{are-rows, all-fit, good_line}
use Rattle.swh_roundtrip.proofs.LineKinds.{IsMarkNumber, is_cook_branch}
use Rattle.swh_roundtrip.proofs.Items.{SpellsCommands, no_commands, commands_append, commands_as, promise_line, spells_blob, spells_tip, spells_end, spells_tag}
use Rattle.swh_roundtrip.proofs.CommitItems.{IsGoodCommit, spells_revision}

-- ## Objects

module _ (bodies : Bodies) (order : List Name) where
  -- What a stream takes of a release.
  pub record IsGoodTag (name : Name) (text : List ℕ) (t : IsTag bodies order name text) : Type 0 where
    pub mark : IsMarkNumber (mark_of order name)
    pub object : IsMarkNumber (mark_of order t.plain.object)
    pub message : length t.plain.rest.message ≤ body_limit

  -- A stream takes what is held under the name.
  abbrev pub IsGoodText : Kind → Name → Type 0
  IsGoodText Content name = IsMarkNumber (mark_of order name) × ((body : List ℕ) → body_of bodies name ≡ Some body → length body ≤ body_limit)
  IsGoodText Directory name = Unit {0}
  IsGoodText RevisionKind name = (text : List ℕ) → (t : IsCommit bodies order name text) → IsGoodCommit order name t.plain t.rows
  IsGoodText ReleaseKind name = (text : List ℕ) → (t : IsTag bodies order name text) → IsGoodTag name text t
  IsGoodText Snapshot name = Unit {0}

  -- the commands of an object, from this place on
  pub record SpellsObject (at : ℕ) (text : List ℕ) (kind : Kind) (name : Name) : Type 0 where
    pub commands : List Command
    pub are : AreCommandsOf bodies order kind name commands
    pub spells : SpellsCommands at text commands

  pub spells_object : (kind : Kind) (name : Name) (at : ℕ) (text : List ℕ) → IsGoodText kind name → IsTextOf bodies order kind name text → SpellsObject at text kind name
  spells_object Content name at text good t =
      let s = spells_blob at (mark_of order name) t.body good.0 (good.1 t.body t.held) in
      record { commands = _; are = record { body = t.body; held = t.held; is = refl }; spells = commands_as at _ text _ (sym t.is) s }
  spells_object Directory name at text good t = record { commands = []; are = refl; spells = commands_as at [] text [] (sym t) (no_commands at) }
  spells_object RevisionKind name at text good t =
      let s = spells_revision order at name t.plain t.rows (good text t) in
      record {
        commands = _;
        are = record { body = t.body; held = t.held; plain = t.plain; is_plain = t.is_plain; rows = t.rows; walk = t.walk; command = s.command; commit = s.is; is = refl };
        spells = commands_as at _ text _ (sym t.is) s.spells;
      }
  spells_object ReleaseKind name at text good t =
      let g = good text t in
      let s = spells_tag at t.plain.tag (mark_of order name) (mark_of order t.plain.object) t.plain.rest.tagger t.plain.rest.message t.is_plain.tag.ref t.is_plain.tag.short g.mark g.object t.is_plain.rest.tagger g.message in
      record {
        commands = _;
        are = record { body = t.body; held = t.held; plain = t.plain; is_plain = t.is_plain; command = _; tag = record { object = s.aim; is = refl; named = s.named }; is = refl };
        spells = commands_as at _ text _ (sym t.is) s.spells;
      }
  spells_object Snapshot name at text good t = record { commands = []; are = refl; spells = commands_as at [] text [] (sym t) (no_commands at) }

  pub record SpellsObjects (at : ℕ) (text : List ℕ) (names : List Name) : Type 0 where
    pub commands : List Command
    pub are : AreObjectCommands bodies order names commands
    pub spells : SpellsCommands at text commands

  pub spells_objects : (names : List Name) (at : ℕ) (text : List ℕ) → ((n : Name) → Contains names n → IsGoodText n.kind n) → AreObjectTexts bodies order names text → SpellsObjects at text names
  spells_objects [] at text good t = record { commands = []; are = refl; spells = commands_as at [] text [] (sym t) (no_commands at) }
  spells_objects (name ∷ names) at text good (a, b, is, one, more) =
      let s = spells_object name.kind name at a (good name (in_first name names)) one in
      let r = spells_objects names (at + length a) b (λ n there. good n (in_rest name names n there)) more in
      record {
        commands = s.commands ++ r.commands;
        are = (s.commands, r.commands, refl, s.are, r.are);
        spells = commands_as at (a ++ b) text (s.commands ++ r.commands) (sym is) (commands_append at a b s.commands r.commands s.spells r.spells);
      }

-- ## Branches

module _ (order : List Name) where
  -- A stream takes the branch, where it leads to a revision.
  abbrev pub IsGoodTip : List ℕ × Name → Type 0
  IsGoodTip tip = IsRef tip.0 × IsMarkNumber (mark_of order tip.1)

  -- the text of some branches
  abbrev pub resets_text : List (List ℕ × Name) → List ℕ
  resets_text tips = flat_map (λ (tip : List ℕ × Name). tip_text tip.0 (mark_of order tip.1)) tips

  pub record SpellsTips (at : ℕ) (text : List ℕ) (tips : List (List ℕ × Name)) : Type 0 where
    pub commands : List Command
    pub are : AreTips order tips commands
    pub spells : SpellsCommands at text commands

  pub spells_tips : (tips : List (List ℕ × Name)) (at : ℕ) → AllByRecursion IsGoodTip tips → SpellsTips at (resets_text tips) tips
  spells_tips [] at h = record { commands = []; are = refl; spells = no_commands at }
  spells_tips (tip ∷ tips) at h =
      let text : List ℕ = tip_text tip.0 (mark_of order tip.1) in
      let s = spells_tip at tip.0 (mark_of order tip.1) h.0.0 h.0.1 in
      let r = spells_tips tips (at + length text) h.1 in
      record {
        commands = Reset tip.0 (Of s.object) ∷ r.commands;
        are = (s.object, r.commands, refl, s.named, r.are);
        spells = commands_append at text (resets_text tips) (Reset tip.0 (Of s.object) ∷ []) r.commands s.spells r.spells;
      }

  resets_append : (a b : List (List ℕ × Name)) → resets_text (a ++ b) ≡ resets_text a ++ resets_text b
  resets_append [] b = refl
  resets_append (t ∷ a) b = ap (λ (x : List ℕ). tip_text t.0 (mark_of order t.1) ++ x) (resets_append a b) ∙ sym (append_assoc (tip_text t.0 (mark_of order t.1)) (resets_text a) (resets_text b))

  object_is : (branch : List ℕ) (n : Name) (kind : Kind) → object_tip order branch n kind ≡ resets_text (object_tips branch n kind)
  object_is branch n Content = refl
  object_is branch n Directory = refl
  object_is branch n RevisionKind = sym (append-nil (tip_text branch (mark_of order n)))
  object_is branch n ReleaseKind = refl
  object_is branch n Snapshot = refl

  target_is : (branch : List ℕ) (target : BranchTarget) → target_tip order branch target ≡ resets_text (branch_tips (record { name = branch; target = target }))
  target_is branch (ToObject n) = object_is branch n n.kind
  target_is branch (ToBranch other) = refl
  target_is branch ToNothing = refl

  pub branches_are : (branches : List SnapshotBranch) → tips_text order branches ≡ resets_text (flat_map branch_tips branches)
  branches_are [] = refl
  branches_are (b ∷ bs) =
      ap (λ (x : List ℕ). x ++ tips_text order bs) (target_is b.name b.target)
      ∙ ap (λ (x : List ℕ). resets_text (branch_tips b) ++ x) (branches_are bs)
      ∙ sym (resets_append (branch_tips b) (flat_map branch_tips bs))

-- ## The end

done_fits : (at : ℕ) → at + 5 ≤ STREAM_LIMIT → LineFits at (codes "done\n")
done_fits at within =
    let none : Contains (codes "done") 10 → ⊥ = absent 10 (codes "done") refl in
    let good = good_line (codes "done") none (omega arith) refl refl (refl, refl, refl, refl, refl) (refl, refl, refl, refl) in
    line_fits at (codes "done") [] none (omega (arith, within)) (omega arith) (λ c. good.words)

-- commands, and the line `done`
ended : (text : List ℕ) (commands : List Command) → SpellsCommands 0 text commands → length text + 5 ≤ STREAM_LIMIT → IsStreamWithin 0 false (text ++ codes "done\n") commands
ended text commands s within = record { stream = stream; fit = all-fit 0 s.spells.rows (codes "done\n") s.spells.free (omega (arith, within, size)); end_fits = done_fits (0 + length (text_of s.spells.rows)) (omega (arith, within, size)) }
  where
    size : length text ≡ length (text_of s.spells.rows)
    size = ap length s.spells.spelled

    stream : IsStream 0 false (text ++ codes "done\n") commands
    stream = record {
      rows = s.spells.rows;
      ending = codes "done\n";
      spelled = ap (λ (t : List ℕ). t ++ codes "done\n") s.spells.spelled;
      whole = record {
        items = s.items;
        good = are-rows s.spells.rows (codes "done\n") s.spells.free;
        said = s.spells.said;
        ends = inr ([], refl);
        these = s.these;
      };
    }

module _ (bodies : Bodies) (order : List Name) (root : Name) where
  record SpellsRoot (text : List ℕ) (kind : Kind) : Type 0 where
    tips : List (List ℕ × Name)
    are : AreRootTips bodies order root kind tips
    is : text ≡ resets_text order tips

  root_tips : (kind : Kind) (text : List ℕ) → AreTipsOf bodies order root kind text → SpellsRoot text kind
  root_tips Content text t = record { tips = []; are = refl; is = t }
  root_tips Directory text t = record { tips = []; are = refl; is = t }
  root_tips RevisionKind text t = record { tips = (codes "refs/heads/main", root) ∷ []; are = refl; is = t ∙ sym (append-nil (tip_text (codes "refs/heads/main") (mark_of order root))) }
  root_tips ReleaseKind text t = record { tips = []; are = refl; is = t }
  root_tips Snapshot text (branches, holds, is) = record { tips = flat_map branch_tips branches; are = (branches, holds, refl); is = is ∙ branches_are order branches }

  record SpellsLast (at : ℕ) (text : List ℕ) : Type 0 where
    commands : List Command
    are : AreLastCommands bodies order root commands
    spells : SpellsCommands at text commands

  last_commands : (at : ℕ) (text : List ℕ) → IsLast bodies order root text → SpellsLast at text
  last_commands at text (inl (leaves, is)) = record { commands = Reset cook_branch NoTip ∷ []; are = inl (leaves, refl); spells = commands_as at _ text _ (sym is) (spells_end at cook_branch is_cook_branch) }
  last_commands at text (inr (stays, is)) = record { commands = []; are = inr (stays, refl); spells = commands_as at [] text [] (sym is) (no_commands at) }

  stream_is : (feature objects tips last done : List ℕ) → (feature ++ (objects ++ (tips ++ last))) ++ done ≡ feature ++ (objects ++ (tips ++ (last ++ done)))
  stream_is feature objects tips last done = simp append_assoc

  -- The text is a stream of its commands, where a stream takes all that it is made of.
  pub cooked_stream : (text : List ℕ) → ((n : Name) → Contains order n → IsGoodText bodies order n.kind n) → ((tips : List (List ℕ × Name)) → AreRootTips bodies order root root.kind tips → AllByRecursion (IsGoodTip order) tips)
      → IsStreamText bodies order root text → length text ≤ STREAM_LIMIT → (commands : List Command) × AreStreamCommands bodies order root commands × IsStreamWithin 0 false text commands
  cooked_stream text good good_tips t within =
      let feature : List ℕ = codes "feature done\n" in
      let o = spells_objects bodies order order (length feature) t.objects good t.are_objects in
      let r = root_tips root.kind t.tips t.are_tips in
      let at_tips : ℕ = length feature + length t.objects in
      let p = spells_tips order r.tips at_tips (good_tips r.tips r.are) in
      let resets : SpellsCommands at_tips t.tips p.commands = commands_as at_tips (resets_text order r.tips) t.tips p.commands (sym r.is) p.spells in
      let l = last_commands (at_tips + length t.tips) t.last t.is_last in
      let tail = commands_append at_tips t.tips t.last p.commands l.commands resets l.spells in
      let behind = commands_append (length feature) t.objects (t.tips ++ t.last) o.commands (p.commands ++ l.commands) o.spells tail in
      let all = commands_append 0 feature (t.objects ++ (t.tips ++ t.last)) [] (o.commands ++ (p.commands ++ l.commands)) (promise_line 0) behind in
      let whole : (feature ++ (t.objects ++ (t.tips ++ t.last))) ++ codes "done\n" ≡ text = stream_is feature t.objects t.tips t.last (codes "done\n") ∙ sym t.is in
      let size = length-append (feature ++ (t.objects ++ (t.tips ++ t.last))) (codes "done\n") in
      let short : length (feature ++ (t.objects ++ (t.tips ++ t.last))) + 5 ≤ STREAM_LIMIT = omega (arith, within, size, ap length whole) in (
        o.commands ++ (p.commands ++ l.commands),
        record { objects = o.commands; are_objects = o.are; tips = r.tips; are_tips = r.are; resets = p.commands; are_resets = p.are; last = l.commands; are_last = l.are; is = refl },
        subst (λ (x : List ℕ). IsStreamWithin 0 false x (o.commands ++ (p.commands ++ l.commands))) whole (ended (feature ++ (t.objects ++ (t.tips ++ t.last))) (o.commands ++ (p.commands ++ l.commands)) all short),
      )
