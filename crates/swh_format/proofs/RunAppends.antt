-- A run with one more object.
use Rattle.std.proofs.Common.{◌≡◌, ℕ, ◌+◌, ◌<◌, List, [], ◌∷◌, ◌++◌, length, take, get_or, refl, sym, ap, ◌∙◌, append_assoc}
use Rattle.std.proofs.lemmas.List.{take_more, append-nil}
use Rattle.swh_base.specs.declared.entry.Entry.{Entry}
use Rattle.swh_format.specs.StoredObject.{coded_entry, coded_run}

pub coded_run-append : (es fs : List Entry) → coded_run (es ++ fs) ≡ coded_run es ++ coded_run fs
coded_run-append [] fs = refl
coded_run-append (e ∷ es) fs = ap (λ (l : List ℕ). coded_entry e ++ l) (coded_run-append es fs) ∙ sym (append_assoc (coded_entry e) (coded_run es) (coded_run fs))

pub run-next : (es : List Entry) (i : ℕ) (e : Entry) → i < length es → e ≡ get_or es i e → coded_run (take (i + 1) es) ≡ coded_run (take i es) ++ coded_entry e
run-next es i e less is =
    ap coded_run (take_more es i e less ∙ ap (λ (x : Entry). take i es ++ x ∷ []) (sym is))
    ∙ coded_run-append (take i es) (e ∷ []) ∙ ap (λ (l : List ℕ). coded_run (take i es) ++ l) (append-nil (coded_entry e))
