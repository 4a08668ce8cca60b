-- What holds of an input at first, and stays from part to part.
use Rattle.std.proofs.Common.{Result, Ok, List, [], ◌∷◌, ◌++◌, sym, subst, append_assoc}
use Rattle.std.specs.Global.{Vec}
use Rattle.std.proofs.lemmas.List.{append-nil}
use Rattle.swh_base.specs.declared.entry.Entry.{Entry}
use Rattle.swh_ingest.specs.declared.parts.Next.{Next}
use Rattle.swh_ingest.specs.declared.parts.Next.TheVariants as next
use Rattle.swh_ingest.specs.Parts.{objects_in, Gave, GaveSoFar, GaveSome}

module _ {I N B E : Type 0} (Gives : I → Result (Next N B) E → I → Type 0) (P : List Entry → I → Type 0) (step : (given : List Entry) (objects : Vec Entry) (mid now : I) → P given mid → Gives mid (Ok (next.Part objects)) now → P (given ++ objects.items) now) where
  parts_keep : (parts : List (List Entry)) (given : List Entry) (i now : I) → P given i → Gave Gives parts i now → P (given ++ objects_in parts) now
  parts_keep [] given i now p g = subst (P (given ++ [])) (sym g) (subst (λ (es : List Entry). P es i) (sym (append-nil given)) p)
  parts_keep (part ∷ parts) given i now p g =
      subst (λ (es : List Entry). P es now) (append_assoc given part (objects_in parts))
      (parts_keep parts (given ++ part) g.0 now (subst (λ (es : List Entry). P (given ++ es) g.0) g.1.are (step given g.1.objects i g.0 p g.1.gives)) g.2)

  -- It holds of what was given so far.
  pub so_far_keeps : (i now : I) (objects : List Entry) → P [] i → GaveSoFar Gives i objects now → P objects now
  so_far_keeps i now objects p h = subst (λ (es : List Entry). P es now) (sym h.are) (parts_keep h.parts [] i now p h.gave)

  -- It holds of what was given with a part.
  pub some_keeps : (i now : I) (objects : List Entry) → P [] i → GaveSome Gives i objects now → P objects now
  some_keeps i now objects p h = subst (λ (es : List Entry). P es now) (sym h.are) (step h.front h.part h.mid now (so_far_keeps i h.mid h.front p h.so_far) h.gives)
