-- Certificates and refusals exclude each other.
use Rattle.std.proofs.Common.{◌≡◌, Option, Some, None, List, [], sym, ◌∙◌, subst}
use Rattle.swh_base.specs.declared.name.Name.{Name}
use Rattle.swh_base.specs.Reach.{IsHeldIn, IsChildIn, IsCovered, IsClosedIn, CertifiesIn}
use Rattle.swh_base.proofs.Reaches.{reaches-next}
use Rattle.swh_closure.specs.declared.certificate.Gap.{Gap}
use Rattle.swh_closure.specs.declared.certificate.Gap.TheVariants.{NotHeld, Unlisted}
use Rattle.swh_closure.specs.Certificate.{IsGap, IsMissing}

not_both : (children_of : Name → Option (List Name)) (n : Name) → IsHeldIn children_of n → children_of n ≡ None → ⊥
not_both children_of n (kids, held) none = let e : Some kids ≡ None = sym held ∙ none in cc

pub gap_refutes : (children_of : Name → Option (List Name)) (closed names : List Name) (root : Name) (gap : Gap) → IsGap children_of closed names root gap → CertifiesIn children_of closed names root → ⊥
gap_refutes children_of closed names root (NotHeld name) gap by = not_both children_of name (by.held name gap.0) gap.1
gap_refutes children_of closed names root (Unlisted None child) gap by = gap.1 (subst (IsCovered closed names) (sym gap.0) by.begins)
gap_refutes children_of closed names root (Unlisted (Some parent) child) gap by = gap.2 (by.kids parent child gap.0 gap.1)

pub missing_refutes : (children_of : Name → Option (List Name)) (root : Name) (parent : Option Name) (child : Name) → IsMissing children_of root parent child → IsClosedIn children_of root → ⊥
missing_refutes children_of root None child gap closed = not_both children_of child (closed child ([], sym gap.0)) gap.1
missing_refutes children_of root (Some parent) child gap closed =
    not_both children_of child (closed child (reaches-next (IsHeldIn children_of) (IsChildIn children_of) gap.1.0 root parent child gap.1.1 gap.2)) gap.3
