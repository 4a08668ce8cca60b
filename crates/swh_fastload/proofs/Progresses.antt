-- A load comes on by a command that is read and carried out.
use Rattle.std.proofs.Common.{◌≡◌, ◌⊎◌, ℕ, ◌≤◌, inl, inr, List, [], ◌∷◌, ◌++◌, Contains, length, sym, ap, ◌∙◌, subst}
use Rattle.std.specs.Prelude.{Result, Ok}
use Rattle.std.proofs.lemmas.List.{map-append}
use Rattle.std.proofs.lemmas.List.Elements.{Contains-append_left, Contains-append_cases}
use Rattle.swh_base.specs.Limits.{body_limit}
use Rattle.swh_base.specs.declared.kind.Kind.{Kind}
use Rattle.swh_base.specs.declared.entry.Entry.{Entry}
use Rattle.swh_object.specs.Object.{IsObject}
use Rattle.swh_model.specs.Meaning.{Made}
use Rattle.swh_fastgrammar.specs.declared.command.Command.{Command}
use Rattle.swh_dedup.specs.Making.{made_from, made}
use Rattle.swh_fastrows.specs.Outcome.{StartsWith}
use Rattle.swh_fastrows.specs.Places.{Position}
use Rattle.swh_fastmeaning.specs.Aims.{Missing}
use Rattle.swh_fastmeaning.specs.Commands.{◌>>=◌, Making, Makes, no_making, step, steps, then}
use Rattle.swh_fastmeaning.specs.Feeding.{Loading, Feeds}
use Rattle.swh_dedup.specs.Giving.{AreNew}
use Rattle.swh_fastload.specs.Input.{beginning, AreCarriedOut}
use Rattle.swh_fastload.specs.Progress.{StandsFor, HasLoaded}
use Rattle.swh_dedup.proofs.Elements.{each_is, from_map}
use Rattle.swh_dedup.proofs.Wholes.{whole_more}
use Rattle.swh_fastload.proofs.InputLaws.{steps_append, then_keeps, then_makes}
use Rattle.swh_fastread.proofs.Outcomes.{starts_join}

module _ (id : Kind → List ℕ → List ℕ) where
  then_cases : (a b : Making) (o : Made) → Makes id (then id a b) o → Makes id a o ⊎ Makes id b o
  then_cases a b o (inl h) = elim (Contains-append_cases a.objects b.objects o h) [ inl k ↦ inl (inl k) | inr k ↦ inr (inl k) ]
  then_cases a b o (inr h) = elim (Contains-append_cases a.trees b.trees h.0 h.1) [ inl k ↦ inl (inr (h.0, k, h.2)) | inr k ↦ inr (inr (h.0, k, h.2)) ]

  -- What is given for a command is what it makes, beside what was made.
  pub stands_more : (l new : Loading) (es more : List Entry) (m : Making) (c : Command) (f : Feeds id l c new more) → StandsFor id l es m → StandsFor id new (es ++ more) (then id m f.making)
  stands_more l new es more m c f s =
      let given : new.given ≡ made (es ++ more) = f.given ∙ ap (λ (ms : List Made). ms ++ made more) s.given ∙ sym (map-append made_from es more) in
      let old : (o : Made) → Contains l.given o → Contains new.given o = λ o h. subst (λ (ms : List Made). Contains ms o) (sym f.given) (Contains-append_left l.given (made more) o h) in
      let made_now : (o : Made) → Contains (made more) o → Makes id f.making o = λ o h.
      let from = from_map made_from more o h in
      subst (Makes id f.making) from.2 (each_is (λ (e : Entry). Makes id f.making (made_from e)) more from.0 f.each from.1) in
      record {
        aims = f.aims;
        given = given;
        sound = λ o h. elim (Contains-append_cases l.given (made more) o (subst (λ (ms : List Made). Contains ms o) f.given h)) [
          | inl k ↦ then_keeps id m f.making o (s.sound o k)
          | inr k ↦ then_makes id m f.making o (made_now o k)
        ];
        full = λ o h. elim (then_cases m f.making o h) [
          | inl k ↦ old o (s.full o k)
          | inr k ↦ f.all o k
        ];
        whole = whole_more id es more s.whole (subst (λ (ms : List Made). AreNew id ms more) s.given f.fresh);
      }

  -- The text starts with one command more.
  pub loaded_more : (text : List ℕ) (rest new : Position) (l next : Loading) (es more : List Entry) (c : Command) → HasLoaded id text rest l es → StartsWith rest new (c ∷ []) → Feeds id l c next more → HasLoaded id text new next (es ++ more)
  loaded_more text rest new l next es more c h s f =
      let stepped : step id h.making.aims c ≡ Ok f.making = ap (λ a. step id a c) (sym h.stands.aims) ∙ f.is in
      let makes : steps id no_making (h.commands ++ c ∷ []) ≡ Ok (then id h.making f.making) =
      steps_append id no_making h.commands (c ∷ []) ∙ ap (λ (r : Result Making Missing). r >>= λ n. steps id n (c ∷ [])) h.makes ∙ ap (λ (r : Result Making Missing). r >>= λ n. steps id (then id h.making n) []) stepped in
      record {
        commands = h.commands ++ c ∷ [];
        making = then id h.making f.making;
        starts = starts_join (beginning text) rest new h.commands (c ∷ []) h.starts s;
        makes = makes;
        stands = stands_more l next es more h.making c f h.stands;
      }

  -- No object that stands for what commands make is above the limit.
  pub carried : (text : List ℕ) (rest : Position) (l : Loading) (es : List Entry) (h : HasLoaded id text rest l es) → AreCarriedOut id h.commands h.making
  carried text rest l es h = record {
    makes = h.makes;
    short = λ o m.
        let among : Contains (made es) o = subst (λ (ms : List Made). Contains ms o) h.stands.given (h.stands.full o m) in
        let from = from_map made_from es o among in
        let object = each_is (IsObject id) es from.0 h.stands.whole.each from.1 in
        subst (λ (x : Made). length x.body ≤ body_limit) from.2 object.short;
  }
