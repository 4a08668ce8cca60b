use Rattle.std.proofs.Common.{[], get_or, refl, sym, subst, List}
use Rattle.std.specs.Prelude.{Contains}
use Rattle.std.proofs.lemmas.List.{take_all}
use Rattle.std.proofs.lemmas.List.Elements.{Contains-get_or}
use Rattle.swh_base.specs.Directory.{DirectoryEntry}
use Rattle.swh_dirfmt.specs.declared.entry.SpelledEntry.{SpelledEntry}
use Rattle.swh_dirfmt.specs.Entries.{entry_of}
use Rattle.swh_graph.proofs.Lists.{in_map, from_map}
use Rattle.swh_fastcarried.specs.First.{IsFolderOf}
use Rattle.swh_fastcarried.proofs.OwnBranches.{each_more}
use Rattle.swh_fastcarried.proofs.Reaching.{not_true}
use Rattle.swh_fastcarried.proofs.folders.lead_to.Goals as goal

abbrev none : SpelledEntry
none = record { mode = 0; name = record { ref_ptr = (0, 0); now = [] }; id = record { ref_ptr = (0, 0); now = [] } }

pub returns-then-leads_to : goal.returns-then-leads_to
returns-then-leads_to c = (
  λ _. record {
    one = entry_of (get_or c.args.entries.now c.loop-entry.entry-index none);
    there = in_map entry_of c.args.entries.now (get_or c.args.entries.now c.loop-entry.entry-index none) (Contains-get_or c.args.entries.now c.loop-entry.entry-index none c.loop-entry-test.true);
    is = c.leads_to.ensures.0 c.if-leads_to.true;
  },
  λ _. refl,
)

pub loop-entry-preserved : goal.loop-entry-preserved
loop-entry-preserved c =
    each_more (λ (e : SpelledEntry). IsFolderOf (entry_of e) c.args.name → ⊥) c.args.entries.now c.loop-entry.entry-index none c.loop-entry-test.true c.loop-entry.invariant
    (not_true c.leads_to.ensures c.if-leads_to.false)

pub returns : goal.returns
returns c = (
  λ is. cc,
  λ one.
      let found = from_map entry_of c.args.entries.now one.one one.there in
      let there = subst (λ (es : List SpelledEntry). Contains es found.0) (sym (take_all c.loop-entry.entry-index c.args.entries.now c.loop-entry-test.false)) found.1.0 in
      absurd (c.loop-entry.invariant found.0 there (subst (λ (e : DirectoryEntry). IsFolderOf e c.args.name) (sym found.1.1) one.is)),
)
