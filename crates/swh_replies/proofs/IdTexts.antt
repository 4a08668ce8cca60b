-- Ids as texts in paths.
use Rattle.std.proofs.Common.{◌≡◌, ◌↔◌, ℕ, Option, Some, None, IsSome, IfSome, IfNone, List, refl, sym, subst}
use Rattle.hex.specs.Hex.{encode_lower}
use Rattle.swh_base.specs.declared.kind.Kind.{Kind}
use Rattle.swh_base.specs.declared.name.Name.{Name}
use Rattle.swh_base.specs.Name.{IsIdText}
use Rattle.swh_base.proofs.Ids.{IsId-from_text, IsIdText-encode}
use Rattle.swh_replies.specs.Answers.{SpellsId, NoId}

pub some_id : (kind : Kind) (text : List ℕ) (r : Option Name) → IfSome r (λ name. (name.kind ≡ kind) × (text ≡ encode_lower name.id)) → (IsSome r ↔ IsIdText text) → IfSome r (λ name. (name.kind ≡ kind) × SpellsId text name.id)
some_id kind text None some found = tt
some_id kind text (Some name) some found = (some.0, record { is_id = IsId-from_text text name.id (found.0 refl) some.1; digits = some.1 })

pub none_id : (text : List ℕ) (r : Option Name) → (IsSome r ↔ IsIdText text) → IfNone r (NoId text)
none_id text None found = λ id h. let never = found.1 (subst IsIdText (sym h.digits) (IsIdText-encode id h.is_id)) in absurd cc
none_id text (Some name) found = tt
