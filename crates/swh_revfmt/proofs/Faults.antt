-- Faults of whole bodies.
use Rattle.std.proofs.Common.{◌≡◌, ◌≢◌, ℕ, ◌+◌, ◌-◌, inl, inr, List, [], ◌∷◌, ◌++◌, length, take, drop, Contains, Result, Ok, Err, refl, sym, ap, ◌∙◌, subst, arith, append_assoc, length-append, codes}
use Rattle.std.specs.Prelude.{IfOk, IfErr}
use Rattle.std.specs.List.{flat_map}
use Rattle.std.proofs.Math.Seq.{take-append-add}
use Rattle.std.proofs.lemmas.Bool.{cases_lt}
use Rattle.std.proofs.lemmas.List.{append-nil, take-append-drop, take_all}
use Rattle.swh_base.specs.declared.kind.Kind.{Kind}
use Rattle.swh_base.specs.declared.kind.Kind.TheVariants.{Content, Snapshot, Revision as RevisionKind, Release as ReleaseKind}
use Rattle.swh_base.specs.Name.{IsId}
use Rattle.swh_base.specs.Revision.{Revision, id_line, parent_line, BeginsParent, IsRevision, revision_children}
use Rattle.swh_base.specs.Release.{Release, release_text, IsRelease}
use Rattle.swh_base.specs.Manifest.{IsWellFormed}
use Rattle.swh_base.proofs.HexLines.{one_line}
use Rattle.swh_base.proofs.RevisionLemmas.{one_revision, one_release}
use Rattle.swh_base.proofs.Middle.{in_middle}
use Rattle.swh_revfmt.specs.declared.revision.Rev.{Rev}
use Rattle.swh_revfmt.specs.declared.release.Rel.{Rel}
use Rattle.swh_revfmt.specs.declared.fault.ReadRevFault.{ReadRevFault}
use Rattle.swh_revfmt.specs.declared.fault.ReadRevFault.TheVariants.{Memory as RevMemory, Bad as RevBad}
use Rattle.swh_revfmt.specs.declared.fault.ReadRelFault.{ReadRelFault}
use Rattle.swh_revfmt.specs.declared.fault.ReadRelFault.TheVariants.{Memory as RelMemory, Bad as RelBad}
use Rattle.swh_revfmt.specs.Fault.{IsRevFault}
use Rattle.swh_revfmt.specs.Reading.{revision_of, release_of, NotLine, type_text, IsLinePlace, IsTypePlace, ExplainsRev, ExplainsRel, GivesRev, GivesRel}
use Rattle.swh_revfmt.proofs.TypePlaces.{type_then, one_type}

pub one_fault_lem : (kind : Kind) (body : List ℕ) (i j : ℕ) → IsRevFault kind body i → IsRevFault kind body j → i ≡ j
one_fault_lem kind body i j f g =
    elim (cases_lt i j) [
      | inl below ↦ absurd (f.longest j below g.within g.continued)
      | inr upto ↦ elim (cases_lt j i) [
        | inl above ↦ absurd (g.longest i above f.within f.continued)
        | inr top ↦ omega arith
      ]
    ]

-- a revision of a directory alone
no_parent : BeginsParent [] → ⊥
no_parent h = let e = h.text in absurd cc

lone_revision : (body id : List ℕ) → IsId id → body ≡ id_line (codes "tree ") id → IsWellFormed RevisionKind body
lone_revision body id is e =
    let revision : Revision = record { directory = id; parents = []; rest = [] } in (
      revision_children revision,
      record {
        revision = revision;
        is = record { text = e ∙ sym (append-nil (id_line (codes "tree ") id)); directory = is; parents = tt; no_more = no_parent };
        kids = refl;
      },
    )

pub revision_fault : (body : List ℕ) (n : ℕ) → NotLine (codes "tree ") body → IsLinePlace (codes "tree ") body n → IsRevFault RevisionKind body n
revision_fault body n never p = record {
  broken = λ (names, kids). never kids.revision.directory (flat_map parent_line kids.revision.parents ++ kids.revision.rest) kids.is.directory kids.is.text;
  within = p.in_bytes;
  continued = record { more = p.more; body = lone_revision (take n body ++ p.more) p.id p.is_id p.begins };
  longest = λ m lt within h.
      let kids = h.body.1 in
      p.longest m kids.revision.directory h.more (flat_map parent_line kids.revision.parents ++ kids.revision.rest) lt within kids.is.directory kids.is.text;
}

-- a release, cut after its kind's line
pub release_then : (r : Release) → release_text r ≡ id_line (codes "object ") r.object.id ++ (type_text r.object.kind ++ (r.tag ++ 10 ∷ r.rest))
release_then r = ap (λ (t : List ℕ). id_line (codes "object ") r.object.id ++ t) (sym (type_then r.object.kind (r.tag ++ 10 ∷ r.rest)))

-- a release without a rest
lone_release : (body id tag : List ℕ) (kind : Kind) → IsId id → kind ≢ Snapshot → (Contains tag 10 → ⊥) → body ≡ id_line (codes "object ") id ++ (type_text kind ++ (tag ++ 10 ∷ [])) → IsWellFormed ReleaseKind body
lone_release body id tag kind is ne none e =
    let release : Release = record { object = record { kind = kind; id = id }; tag = tag; rest = [] } in (
      release.object ∷ [],
      record { release = release; is = record { text = e ∙ sym (release_then release); object = is; no_snapshot = ne; one_line = none }; kids = refl },
    )

empty-no_feed : Contains {X = ℕ} [] 10 → ⊥
empty-no_feed h = let l = h.1 in absurd (omega (arith, l))

-- the bytes break in the first line
pub release_fault : (body : List ℕ) (n : ℕ) → NotLine (codes "object ") body → IsLinePlace (codes "object ") body n → IsRevFault ReleaseKind body n
release_fault body n never p =
    let tail : List ℕ = type_text Content ++ ([] ++ 10 ∷ []) in
    record {
      broken = λ (names, kids). let r = kids.release in never r.object.id (type_text r.object.kind ++ (r.tag ++ 10 ∷ r.rest)) kids.is.object (kids.is.text ∙ release_then r);
      within = p.in_bytes;
      continued = record { more = p.more ++ tail; body = lone_release (take n body ++ (p.more ++ tail)) p.id [] Content p.is_id (λ e. cc) empty-no_feed (sym (append_assoc (take n body) p.more tail) ∙ ap (λ (t : List ℕ). t ++ tail) p.begins) };
      longest = λ m lt within h.
          let kids = h.body.1 in
          let r = kids.release in
          p.longest m r.object.id h.more (type_text r.object.kind ++ (r.tag ++ 10 ∷ r.rest)) lt within kids.is.object (kids.is.text ∙ release_then r);
    }

-- what follows the first line of a release
behind_line : (id rest : List ℕ) → IsId id → (body : List ℕ) → body ≡ id_line (codes "object ") id ++ rest → (r : Release) → IsRelease body r → rest ≡ type_text r.object.kind ++ (r.tag ++ 10 ∷ r.rest)
behind_line id rest is body e r h = (one_line (codes "object ") id r.object.id rest (type_text r.object.kind ++ (r.tag ++ 10 ∷ r.rest)) is h.object (sym e ∙ h.text ∙ release_then r)).1

-- the bytes break in the lines of the kind and the tag's word
pub type_fault : (id rest : List ℕ) (n : ℕ) → IsId id → IsTypePlace rest n → IsRevFault ReleaseKind (id_line (codes "object ") id ++ rest) (length (id_line (codes "object ") id) + n)
type_fault id rest n is p =
    let line : List ℕ = id_line (codes "object ") id in
    let tail : List ℕ = [] ++ 10 ∷ [] in
    let inside = p.in_bytes in
    record {
      broken = λ (names, kids). let r = kids.release in p.none r.object.kind (r.tag ++ 10 ∷ r.rest) kids.is.no_snapshot (behind_line id rest is (line ++ rest) refl r kids.is);
      within = omega (arith, length-append line rest);
      continued =
          let more : List ℕ = drop n (type_text p.kind) ++ tail in
          record {
            more = more;
            body = lone_release (take (length line + n) (line ++ rest) ++ more) id [] p.kind is p.no_snapshot empty-no_feed
                (ap (λ (t : List ℕ). t ++ more) (take-append-add line rest n) ∙ append_assoc line (take n rest) more
                ∙ ap (λ (t : List ℕ). line ++ t) (sym (append_assoc (take n rest) (drop n (type_text p.kind)) tail) ∙ ap (λ (t : List ℕ). t ++ tail) (ap (λ (t : List ℕ). t ++ drop n (type_text p.kind)) p.begins ∙ take-append-drop n (type_text p.kind))));
          };
      longest = λ m lt within h.
          let kids = h.body.1 in
          let r = kids.release in
          let k : ℕ = m - length line in
          let sum : m ≡ length line + k = omega arith in
          let cut : take m (line ++ rest) ++ h.more ≡ line ++ (take k rest ++ h.more) = ap (λ (x : ℕ). take x (line ++ rest) ++ h.more) sum ∙ ap (λ (t : List ℕ). t ++ h.more) (take-append-add line rest k) ∙ append_assoc line (take k rest) h.more in
          p.longest k r.object.kind h.more (r.tag ++ 10 ∷ r.rest) (omega arith) (omega (arith, length-append line rest)) kids.is.no_snapshot
          (behind_line id (take k rest ++ h.more) is (take m (line ++ rest) ++ h.more) cut r kids.is);
    }

-- the tag's line does not end
pub tag_fault : (body id rest : List ℕ) (kind : Kind) → IsId id → kind ≢ Snapshot → body ≡ id_line (codes "object ") id ++ (type_text kind ++ rest) → (Contains rest 10 → ⊥) → IsRevFault ReleaseKind body (length body)
tag_fault body id rest kind is ne e none = record {
  broken = λ (names, kids).
      let r = kids.release in
      none (subst (λ (t : List ℕ). Contains t 10) (sym (one_type kind r.object.kind rest (r.tag ++ 10 ∷ r.rest) (behind_line id (type_text kind ++ rest) is body e r kids.is))) (in_middle r.tag r.rest 10));
  within = omega arith;
  continued = record {
    more = 10 ∷ [];
    body = lone_release (take (length body) body ++ 10 ∷ []) id rest kind is ne none
        (ap (λ (t : List ℕ). t ++ 10 ∷ []) (take_all (length body) body (omega arith) ∙ e) ∙ append_assoc (id_line (codes "object ") id) (type_text kind ++ rest) (10 ∷ []) ∙ ap (λ (t : List ℕ). id_line (codes "object ") id ++ t) (append_assoc (type_text kind) rest (10 ∷ [])));
  };
  longest = λ m lt within h. absurd (omega arith);
}

-- a reader that is right at both answers reads each body
pub gives_rev : (body : List ℕ) (r : Result Rev ReadRevFault) → IfOk r (λ rev. IsRevision body (revision_of rev)) → IfErr r (ExplainsRev body) → (revision : Revision) → IsRevision body revision → GivesRev r revision
gives_rev body (Ok rev) ok err revision h = one_revision body (revision_of rev) revision ok h
gives_rev body (Err RevMemory) ok err revision h = tt
gives_rev body (Err (RevBad bad)) ok err revision h = err.broken (revision_children revision, record { revision = revision; is = h; kids = refl })

pub gives_rel : (body : List ℕ) (r : Result Rel ReadRelFault) → IfOk r (λ rel. IsRelease body (release_of rel)) → IfErr r (ExplainsRel body) → (release : Release) → IsRelease body release → GivesRel r release
gives_rel body (Ok rel) ok err release h = one_release body (release_of rel) release ok h
gives_rel body (Err RelMemory) ok err release h = tt
gives_rel body (Err (RelBad bad)) ok err release h = err.broken (release.object ∷ [], record { release = release; is = h; kids = refl })
