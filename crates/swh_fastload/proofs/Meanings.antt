-- What an input means of which all commands were carried out.
use Rattle.std.proofs.Common.{◌≡◌, ◌⊎◌, ◌↔◌, ℕ, ◌≤◌, inl, inr, false, List, [], ◌∷◌, ◌++◌, Option, Contains, length, sym, ap, ◌∙◌, subst}
use Rattle.std.specs.Prelude.{◌≢◌, Result}
use Rattle.std.specs.List.{AllByRecursion}
use Rattle.std.proofs.lemmas.List.{map-append, append-nil}
use Rattle.std.proofs.lemmas.List.Elements.{Contains-append_left, Contains-append_right, Contains-append_cases}
use Rattle.swh_base.specs.Limits.{body_limit}
use Rattle.swh_base.specs.declared.kind.Kind.{Kind}
use Rattle.swh_base.specs.declared.kind.Kind.TheVariants.{Snapshot}
use Rattle.swh_base.specs.declared.name.Name.{Name}
use Rattle.swh_base.specs.declared.entry.Entry.{Entry}
use Rattle.swh_base.specs.Snapshot.{snapshot_name}
use Rattle.swh_model.specs.Meaning.{Made}
use Rattle.swh_object.specs.Object.{IsObject}
use Rattle.swh_fastrows.specs.Outcome.{IsStreamWithin}
use Rattle.swh_fastread.proofs.Outcomes.{stream_carries, carries_with}
use Rattle.swh_fastmeaning.specs.declared.feed_fault.FeedFault.{FeedFault}
use Rattle.swh_fastmeaning.specs.declared.feed_fault.FeedFault.TheVariants.{BadStream as BadFeed, Limit as PassesBody, Memory as FeedMemory}
use Rattle.swh_fastmeaning.specs.Aims.{AllAims}
use Rattle.swh_fastmeaning.specs.Commands.{Making, Makes}
use Rattle.swh_fastmeaning.specs.Ending.{refs_limit, EndsParts, PassesEnd, ExplainsEnd}
use Rattle.swh_fastmeaning.specs.Feeding.{Loading}
use Rattle.swh_dedup.specs.Giving.{AreNew}
use Rattle.swh_fastload.specs.Input.{beginning, MeansStream, Means, Breaks, MayBreak}
use Rattle.swh_fastload.specs.Giving.{meaning_of}
use Rattle.swh_dedup.specs.Making.{made_from, made, names_of_made}
use Rattle.swh_fastload.specs.Reading.{feed_fault, HasRead, BreaksSo, IsQuiet}
use Rattle.swh_fastmeaning.specs.Snapshots.{refs_of, snapshot_of}
use Rattle.swh_dedup.specs.Whole.{names_of, AreWhole}
use Rattle.swh_dedup.proofs.Elements.{first_or_later, first_is, none_is, from_map, each_is}
use Rattle.swh_dedup.proofs.Givens.{new_push}
use Rattle.swh_fastload.proofs.Readings.{body_may}
use Rattle.swh_dedup.proofs.Wholes.{same_names, whole_one, new_whole}
use Rattle.swh_fastload.proofs.Progresses.{carried}

module _ (id : Kind → List ℕ → List ℕ) (head : Option (List ℕ)) where
  whole_stream : (text : List ℕ) (state : Result Loading FeedFault) (es : List Entry) (h : HasRead id text state es) → IsStreamWithin 0 false text h.come.loaded.commands
  whole_stream text state es h =
      let l = h.come.loaded in
      subst (IsStreamWithin 0 false text) (append-nil l.commands) (carries_with (λ n cs. IsStreamWithin n.at n.promised n.left cs) stream_carries (beginning text) h.rest l.commands [] l.starts h.ends)

  -- the snapshot among the objects
  snapshot_of_object : (making : Making) (o : Entry) → made_from o ≡ snapshot_of head making.aims → IsObject id o → o.name.id ≡ id Snapshot (snapshot_of head making.aims).body
  snapshot_of_object making o e object = object.named ∙ ap (λ (m : Made). id m.kind m.body) e

  members : (l : Loading) (making : Making) (es : List Entry) (o : Entry) → ((m : Made) → Contains (made es) m → Makes id making m) → ((m : Made) → Makes id making m → Contains (made es) m) → made_from o ≡ snapshot_of head making.aims → (m : Made) → Contains (made (es ++ o ∷ [])) m ↔ (Makes id making m ⊎ (m ≡ snapshot_of head making.aims))
  members l making es o sound full e m =
      let both : made (es ++ o ∷ []) ≡ made es ++ made_from o ∷ [] = map-append made_from es (o ∷ []) in (
        λ c. forth (Contains-append_cases (made es) (made_from o ∷ []) m (subst (λ (ms : List Made). Contains ms m) both c)),
        λ c. subst (λ (ms : List Made). Contains ms m) (sym both) (back c),
      )
    where
      forth : Contains (made es) m ⊎ Contains (made_from o ∷ []) m → Makes id making m ⊎ (m ≡ snapshot_of head making.aims)
      forth (inl c) = inl (sound m c)
      forth (inr c) = elim (first_or_later (made_from o) [] m c) [ inl f ↦ inr (sym f ∙ e) | inr n ↦ absurd (none_is m n) ]

      back : Makes id making m ⊎ (m ≡ snapshot_of head making.aims) → Contains (made es ++ made_from o ∷ []) m
      back (inl k) = Contains-append_left (made es) (made_from o ∷ []) m (full m k)
      back (inr k) = Contains-append_right (made es) (made_from o ∷ []) m (subst (λ (x : Made). Contains (made_from o ∷ []) x) (e ∙ sym k) (first_is (made_from o) []))

  -- All was carried out, and the snapshot is this object.
  means_stream : (text : List ℕ) (state : Result Loading FeedFault) (es : List Entry) (h : HasRead id text state es) (o : Entry) (all : List Entry) (snapshot : List ℕ) → EndsParts head h.come.loading o → IsObject id o → all ≡ es ++ o ∷ [] → snapshot ≡ o.name.id → MeansStream id head text (meaning_of all snapshot)
  means_stream text state es h o all id_of ends object items named =
      let l = h.come.loaded in
      let snapshot : made_from o ≡ snapshot_of head l.making.aims = ends.snapshot ∙ ap (snapshot_of head) l.stands.aims in
      let few : length (refs_of l.making.aims) ≤ refs_limit = subst (λ a. length (refs_of a) ≤ refs_limit) l.stands.aims ends.few in
      let short : length (snapshot_of head l.making.aims).body ≤ body_limit = subst (λ (m : Made). length m.body ≤ body_limit) snapshot object.short in
      let in_given : (m : Made) → Contains (made es) m → Makes id l.making m = λ m c. l.stands.sound m (subst (λ (ms : List Made). Contains ms m) (sym l.stands.given) c) in
      let given : (m : Made) → Makes id l.making m → Contains (made es) m = λ m c. subst (λ (ms : List Made). Contains ms m) l.stands.given (l.stands.full m c) in
      let objects : (m : Made) → Contains (made all) m ↔ (Makes id l.making m ⊎ (m ≡ snapshot_of head l.making.aims)) = subst (λ (xs : List Entry). (m : Made) → Contains (made xs) m ↔ (Makes id l.making m ⊎ (m ≡ snapshot_of head l.making.aims))) (sym items) (members h.come.loading l.making es o in_given given snapshot) in
      record {
        commands = l.commands;
        making = l.making;
        stream = whole_stream text state es h;
        carried = carried id text h.rest h.come.loading es l;
        within = record { refs = few; body = short };
        meant = record { objects = objects; snapshot = named ∙ snapshot_of_object l.making o snapshot object };
      }

  pub means_all : (text : List ℕ) (state : Result Loading FeedFault) (es : List Entry) (h : HasRead id text state es) (o : Entry) (all : List Entry) (snapshot : List ℕ) → EndsParts head h.come.loading o → IsObject id o → all ≡ es ++ o ∷ [] → snapshot ≡ o.name.id → Means id head text (meaning_of all snapshot)
  unfolding Means
  means_all text state es h o all snapshot ends object items named = means_stream text state es h o all snapshot ends object items named

  -- The objects have all of their children, and the snapshot is one of them.
  pub reaches_whole : (l : Loading) (es : List Entry) (o : Entry) (all : List Entry) (snapshot : List ℕ) → l.given ≡ made es → AreNew id [] es → EndsParts head l o → IsObject id o → AllByRecursion (Contains (names_of_made id l.given)) o.kids → all ≡ es ++ o ∷ [] → snapshot ≡ o.name.id → AreWhole id all × Contains (names_of all) (snapshot_name snapshot)
  reaches_whole l es o all snapshot given fresh ends object kids items named =
      let whole : AreWhole id es = new_whole id es fresh in
      let among : AllByRecursion (Contains (names_of es)) o.kids = subst (λ (ns : List Name). AllByRecursion (Contains ns) o.kids) (ap (names_of_made id) given ∙ same_names id es whole.each) kids in
      let every : AreWhole id (es ++ o ∷ []) = whole_one id es o whole object among in
      let kind : o.name.kind ≡ Snapshot = ap (λ (m : Made). m.kind) ends.snapshot in
      let name : o.name ≡ snapshot_name snapshot = ap (λ (k : Kind). let n : Name = record { kind = k; id = o.name.id } in n) kind ∙ ap (λ (i : List ℕ). let n : Name = record { kind = Snapshot; id = i } in n) (sym named) in
      let there : Contains (names_of (es ++ o ∷ [])) o.name = subst (λ (ns : List Name). Contains ns o.name) (sym (map-append (λ (e : Entry). e.name) es (o ∷ []))) (Contains-append_right (names_of es) (o.name ∷ []) o.name (first_is o.name [])) in (
        subst (AreWhole id) (sym items) every,
        subst (λ (xs : List Entry). Contains (names_of xs) (snapshot_name snapshot)) (sym items) (subst (Contains (names_of (es ++ o ∷ []))) name there),
      )

  -- The snapshot is new, since none was given.
  pub ends_new : (l : Loading) (es : List Entry) (o : Entry) → l.given ≡ made es → AreNew id [] es → AllByRecursion (λ e. e.name.kind ≢ Snapshot) es → EndsParts head l o → IsObject id o → AllByRecursion (Contains (names_of_made id l.given)) o.kids → AreNew id [] (es ++ o ∷ [])
  ends_new l es o given fresh kinds ends object kids =
      new_push id [] es o fresh unseen object (subst (λ (ms : List Made). AllByRecursion (Contains (names_of_made id ms)) o.kids) given kids)
    where
      unseen : Contains (made es) (made_from o) → ⊥
      unseen c =
          let from = from_map made_from es (made_from o) c in
          each_is (λ (e : Entry). e.name.kind ≢ Snapshot) es from.0 kinds from.1 (ap (λ (m : Made). m.kind) (from.2 ∙ ends.snapshot))

  -- The snapshot passes a limit.
  pub end_breaks : (text : List ℕ) (state : Result Loading FeedFault) (es : List Entry) (h : HasRead id text state es) (fault : FeedFault) → ExplainsEnd head h.come.loading.aims fault → BreaksSo id head text (feed_fault fault)
  unfolding Breaks
  end_breaks text state es h (BadFeed at why) e = absurd e
  end_breaks text state es h (PassesBody which number) e =
      let l = h.come.loaded in
      inr (inr (record {
        commands = l.commands;
        making = l.making;
        stream = whole_stream text state es h;
        carried = carried id text h.rest h.come.loading es l;
        above = subst (λ a. PassesEnd head a which number) l.stands.aims e;
      }))
  end_breaks text state es h FeedMemory e = tt

pub quiet : {T : Type 0} (head : Option (List ℕ)) (aims : AllAims T) (fault : FeedFault) → ExplainsEnd head aims fault → IsQuiet (feed_fault fault)
unfolding MayBreak
quiet head aims (BadFeed at why) e = tt
quiet head aims (PassesBody which number) (inl (refs, is, above)) = inr (refs, above)
quiet head aims (PassesBody which number) (inr (body, few, is, above)) = inl (body_may which number body above)
quiet head aims FeedMemory e = tt
