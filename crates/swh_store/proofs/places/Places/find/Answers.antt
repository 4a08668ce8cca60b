use Rattle.std.proofs.Common.{◌∙◌, List, ℕ, ap, sym, subst}
use Rattle.std.specs.BTreeMap.{get}
use Rattle.swh_store.specs.Entries.{keys_cmp, IsFound}
use Rattle.swh_store.specs.Places.{IsNowhere, NoneLeads}
use Rattle.swh_store.proofs.IndexLemmas.{stands}
use Rattle.swh_store.proofs.places.Places.find.Goals as goal

pub returns-in-At : goal.returns-in-At
returns-in-At c = stands c.args.entries.now c.args.name.now c.in-At.place c.requires.good c.requires.new c.in-At.ensures

pub returns-in-Nowhere : goal.returns-in-Nowhere
returns-in-Nowhere c = c.requires.free c.args.name.now (subst (λ (slots : List ℕ). IsNowhere slots c.args.entries.now c.args.name.now) c.as_slice.ensures.value c.in-Nowhere.ensures)

pub returns-in-Nothing : goal.returns-in-Nothing
returns-in-Nothing c =
    let found = c.copied.ensures ∙ c.get.ensures.value ∙ ap (get keys_cmp c.args.self.now.others) c.key_of.ensures in
    subst (IsFound c.args.entries.now c.args.name.now) (sym found)
    (c.requires.rest c.args.name.now (subst (λ (slots : List ℕ). NoneLeads slots c.args.entries.now c.args.name.now 4) c.as_slice.ensures.value c.in-Nothing.ensures))
