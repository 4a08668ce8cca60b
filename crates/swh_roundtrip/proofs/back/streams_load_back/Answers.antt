use Rattle.std.proofs.Common.{◌≢◌, ℕ, Option, List, refl, subst}
use Rattle.swh_base.specs.declared.kind.Kind.{Kind}
use Rattle.swh_base.specs.declared.kind.Kind.TheVariants.{Content, Directory, Revision, Release, Snapshot}
use Rattle.swh_base.specs.declared.name.Name.{Name}
use Rattle.swh_model.specs.Archive.{Bodies}
use Rattle.swh_postorder.proofs.Stops.{one_order}
use Rattle.swh_fastcook.specs.Cook.{IsTextOfKind}
use Rattle.swh_fastcook.specs.Stream.{IsStreamText, IsStreamOf}
use Rattle.swh_roundtrip.proofs.LoadingBack.{loads_back}
use Rattle.swh_roundtrip.proofs.back.streams_load_back.Goals as goal

stream_of : (bodies : Bodies) (children_of : Name → Option (List Name)) (root : Name) (text : List ℕ) (kind : Kind) → kind ≢ Content → IsTextOfKind bodies children_of root kind text → IsStreamOf bodies children_of root text
stream_of bodies children_of root text Content no_content t = absurd (no_content refl)
stream_of bodies children_of root text Directory no_content t = t
stream_of bodies children_of root text Revision no_content t = t
stream_of bodies children_of root text Release no_content t = t
stream_of bodies children_of root text Snapshot no_content t = t

pub returns : goal.returns
returns g id bodies children_of root text head c named in_limit of_bytes graph no_content no_directory t h =
    let s = stream_of bodies children_of root text root.kind no_content t in
    loads_back id bodies children_of graph root c.order c.is_order c.carried named in_limit of_bytes no_content no_directory text
    (subst (λ (o : List Name). IsStreamText bodies o root text) (one_order children_of root s.order c.order s.is_order c.is_order) s.is) head h
