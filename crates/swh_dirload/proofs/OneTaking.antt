-- The lines of a listing make one thing of what stands in a folder, and break it in one way at most.
use Rattle.std.proofs.Common.{◌≡◌, ℕ, cond, Option, List, [], ◌∷◌, ◌++◌, refl, sym, ap, ◌∙◌}
use Rattle.std.specs.Str.{bytes_eq}
use Rattle.swh_dirmade.specs.Spots.{Places}
use Rattle.swh_listing.specs.declared.listed.Listed.{Listed}
use Rattle.swh_listing.specs.declared.listed.Mode.{Mode}
use Rattle.swh_listing.specs.declared.listed.Mode.TheVariants.{Executable, Link, Project}
use Rattle.swh_dirmade.specs.declared.member.Member.{Member}
use Rattle.swh_dirload.specs.Places.{MayTake, changed, take, TakesAll}

-- the same stands at each path
abbrev pub AreSame : Places → Places → Type 0
AreSame places others = (path : List ℕ) → places path ≡ others path

may_same : (places others : Places) (mode : Mode) (path : List ℕ) → AreSame places others → MayTake places mode path → MayTake others mode path
may_same places others Executable path same h = (h.0, sym (same path) ∙ h.1)
may_same places others Link path same h = (h.0, sym (same path) ∙ h.1)
may_same places others (Project id) path same h =
    let f = h.1 in
    (sym (same path) ∙ h.0, record { dir = f.dir; name = f.name; cut = f.cut; some = f.some; one = f.one; folder = sym (same f.dir) ∙ f.folder })

take_same : (places others : Places) (listed : Listed) → AreSame places others → AreSame (take places listed) (take others listed)
take_same places others listed same path = ap (λ (old : Option Member). cond (bytes_eq path listed.path) (changed listed.mode old) old) (same path)

-- the same lines make the same of it
pub one_taking : (places others : Places) (lines : List Listed) (now then : Places) → AreSame places others → TakesAll places lines now → TakesAll others lines then → AreSame now then
one_taking places others [] now then same h k = λ path. h path ∙ same path ∙ sym (k path)
one_taking places others (l ∷ lines) now then same h k = one_taking (take places l) (take others l) lines now then (take_same places others l same) h.1 k.1

-- what the first of the lines is taken after
pub taken_behind : (places : Places) (lines more : List Listed) (now : Places) → TakesAll places (lines ++ more) now → (mid : Places) × TakesAll places lines mid × TakesAll mid more now
taken_behind places [] more now h = (places, λ path. refl, h)
taken_behind places (l ∷ lines) more now h = let r = taken_behind (take places l) lines more now h.1 in (r.0, (h.0, r.1), r.2)

-- a line that is taken may come, wherever the same stands
pub may_come : (places others : Places) (lines more : List Listed) (listed : Listed) (mid now : Places) → AreSame places others → TakesAll places lines mid → TakesAll others (lines ++ listed ∷ more) now → MayTake mid listed.mode listed.path
may_come places others lines more listed mid now same h k =
    let r = taken_behind others lines (listed ∷ more) now k in
    let there : AreSame r.0 mid = λ path. sym (one_taking places others lines mid r.0 same h r.1 path) in
    may_same r.0 mid listed.mode listed.path there r.2.0
