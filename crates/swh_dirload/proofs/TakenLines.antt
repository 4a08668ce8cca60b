-- Lines that are taken one after another.
use Rattle.std.proofs.Common.{◌≡◌, inl, inr, ℕ, ◌+◌, cond, Option, Some, List, [], ◌∷◌, ◌++◌, length, refl, sym, ap, ◌∙◌, subst, arith, length-append}
use Rattle.std.specs.Prelude.{Result, Ok, Err, IfOk}
use Rattle.std.specs.Str.{bytes_eq}
use Rattle.swh_base.specs.declared.memory.Memory.{Memory}
use Rattle.swh_listing.specs.declared.fault.ListingFault.{ListingFault}
use Rattle.swh_listing.specs.declared.fault.ListingFault.TheVariants as listing
use Rattle.swh_listing.specs.declared.listed.Listed.{Listed}
use Rattle.swh_listing.specs.declared.listed.Mode.{Mode}
use Rattle.swh_listing.specs.declared.listed.Mode.TheVariants.{Executable, Link, Project}
use Rattle.swh_listing.specs.Line.{SaysListed}
use Rattle.swh_listing.specs.Listing.{TakesLine, behind, Reads}
use Rattle.swh_listing.specs.Fault.{NextBreaks}
use Rattle.swh_listing.proofs.Readings.{one_more}
use Rattle.swh_dirload.specs.declared.lookup.Lookup.{Lookup}
use Rattle.swh_dirload.specs.declared.lookup.Lookup.TheVariants.{Here, Free, Lost}
use Rattle.swh_dirmade.specs.declared.member.Member.{Member}
use Rattle.swh_dirmade.specs.declared.member.Member.TheVariants as stands
use Rattle.swh_dirmade.specs.declared.spot.Spot.{Spot}
use Rattle.swh_dirload.specs.declared.taking.Taken.{Taken}
use Rattle.swh_dirload.specs.declared.taking.Taken.TheVariants.{Yes, No}
use Rattle.swh_dirload.specs.Faults.{listing_fault}
use Rattle.swh_dirmade.specs.Spots.{Places, place_at, IsTable, Stand}
use Rattle.swh_dirload.specs.Places.{IsInFolder, MayTake, changed, take, TakesAll}
use Rattle.swh_dirload.specs.Index.{MayAdd, LooksUp}
use Rattle.swh_dirload.specs.Lines.{line_of, TakesMode, spot_of, AddsProject, IsTaken, ExplainsLines}
use Rattle.swh_dirload.proofs.Standings.{mode_refused, mode_may, mode_taken, project_refused, project_may, project_taken}

here_same : (n k : ℕ) → Here n ≡ Here k → k ≡ n
here_same n k e = cc

free_above : (a b : ℕ) (m n : List ℕ) → Free a m ≡ Free b n → b ≡ a
free_above a b m n e = cc

-- the file to which a path leads got another mode, or may not get one
mode_line : (spots : List Spot) (old new : List Member) (before : Places) (m : Mode) (mode : ℕ) (path : List ℕ) (found : Lookup) (taken : Taken) → IsTable spots → length old ≡ length spots → Stand spots old before → LooksUp spots path found → TakesMode found old mode new taken → ((id : List ℕ) → changed m (Some (stands.File 100644 id)) ≡ Some (stands.File mode id)) → ((id : List ℕ) × (before path ≡ Some (stands.File 100644 id)) → MayTake before m path) → (MayTake before m path → (id : List ℕ) × (before path ≡ Some (stands.File 100644 id))) → IsTaken before m path spots new taken
mode_line spots old new before m mode path (Here n) Yes table count stand looks takes changes to from =
    (to (takes.0, mode_may spots old before path n takes.0 stand looks.0 looks.1 takes.1), mode_taken spots old new before m mode path n takes.0 table count stand looks.0 looks.1 takes.1 takes.2 (changes takes.0))
mode_line spots old new before m mode path (Here n) No table count stand looks takes changes to from = λ _ may.
    mode_refused spots old before path (Here n) table stand looks (λ k is id e. takes.1 id (subst (λ (j : ℕ). place_at old j ≡ stands.File 100644 id) (here_same n k is) e)) (from may)
mode_line spots old new before m mode path (Free above name) Yes table count stand looks takes changes to from = let bad = takes.0 in absurd (cc)
mode_line spots old new before m mode path (Free above name) No table count stand looks takes changes to from = λ _ may.
    mode_refused spots old before path (Free above name) table stand looks (λ k is id e. absurd (cc)) (from may)
mode_line spots old new before m mode path Lost Yes table count stand looks takes changes to from = let bad = takes.0 in absurd (cc)
mode_line spots old new before m mode path Lost No table count stand looks takes changes to from = λ _ may.
    mode_refused spots old before path Lost table stand looks (λ k is id e. absurd (cc)) (from may)

pub executable_line : (spots : List Spot) (old new : List Member) (before : Places) (path : List ℕ) (taken : Taken) → IsTable spots → length old ≡ length spots → Stand spots old before → ((found : Lookup) × LooksUp spots path found × TakesMode found old 100755 new taken) → IsTaken before Executable path spots new taken
executable_line spots old new before path taken table count stand h = mode_line spots old new before Executable 100755 path h.0 taken table count stand h.1 h.2 (λ id. refl) (λ may. may) (λ may. may)

pub link_line : (spots : List Spot) (old new : List Member) (before : Places) (path : List ℕ) (taken : Taken) → IsTable spots → length old ≡ length spots → Stand spots old before → ((found : Lookup) × LooksUp spots path found × TakesMode found old 120000 new taken) → IsTaken before Link path spots new taken
link_line spots old new before path taken table count stand h = mode_line spots old new before Link 120000 path h.0 taken table count stand h.1 h.2 (λ id. refl) (λ may. may) (λ may. may)

-- a project's revision was added, or may not be
pub project_line : (spots spots_now : List Spot) (standing standing_now : List Member) (before : Places) (path id : List ℕ) (above : ℕ) (name : List ℕ) (taken : Taken) → IsTable spots → length standing ≡ length spots → Stand spots standing before → MayAdd spots path above name → AddsProject above name id spots standing spots_now standing_now taken → IsTaken before (Project id) path spots_now standing_now taken
project_line spots spots_now standing standing_now before path id above name Yes table count stand may adds =
    let stood = project_taken spots standing before path id (spot_of above name) table count stand may in
    (project_may spots standing before path above name table stand may adds.0, subst (λ (ss : List Spot). Stand ss standing_now (take before (line_of (Project id) path))) (sym adds.1) (subst (λ (ps : List Member). Stand (spots ++ spot_of above name ∷ []) ps (take before (line_of (Project id) path))) (sym adds.2) stood))
project_line spots spots_now standing standing_now before path id above name No table count stand may adds = λ _ taken.
    project_refused spots standing before path (Free above name) table stand may (λ a n is folder. adds.2 (subst (λ (b : ℕ). place_at standing b ≡ stands.Folder) (free_above above a name n is) folder)) taken

pub project_none : (spots : List Spot) (standing : List Member) (before : Places) (path id : List ℕ) (found : Lookup) → ((above : ℕ) (name : List ℕ) → found ≡ Free above name → ⊥) → IsTable spots → Stand spots standing before → LooksUp spots path found → MayTake before (Project id) path → ⊥
project_none spots standing before path id found none table stand looks may = project_refused spots standing before path found table stand looks (λ a n is _. none a n is) may

-- the same, unless memory ran out
pub executable_result : (spots : List Spot) (old new : List Member) (before : Places) (path : List ℕ) (result : Result Taken Memory) → IsTable spots → length old ≡ length spots → Stand spots old before → IfOk result (λ taken. (found : Lookup) × LooksUp spots path found × TakesMode found old 100755 new taken) → IfOk result (IsTaken before Executable path spots new)
executable_result spots old new before path (Ok taken) table count stand h = executable_line spots old new before path taken table count stand h
executable_result spots old new before path (Err e) table count stand h = tt

pub link_result : (spots : List Spot) (old new : List Member) (before : Places) (path : List ℕ) (result : Result Taken Memory) → IsTable spots → length old ≡ length spots → Stand spots old before → IfOk result (λ taken. (found : Lookup) × LooksUp spots path found × TakesMode found old 120000 new taken) → IfOk result (IsTaken before Link path spots new)
link_result spots old new before path (Ok taken) table count stand h = link_line spots old new before path taken table count stand h
link_result spots old new before path (Err e) table count stand h = tt

pub project_result : (spots spots_now : List Spot) (standing standing_now : List Member) (before : Places) (path id : List ℕ) (above : ℕ) (name : List ℕ) (result : Result Taken Memory) → IsTable spots → length standing ≡ length spots → Stand spots standing before → MayAdd spots path above name → IfOk result (AddsProject above name id spots standing spots_now standing_now) → IfOk result (IsTaken before (Project id) path spots_now standing_now)
project_result spots spots_now standing standing_now before path id above name (Ok taken) table count stand may adds = project_line spots spots_now standing standing_now before path id above name taken table count stand may adds
project_result spots spots_now standing standing_now before path id above name (Err e) table count stand may adds = tt

may_same : (before places : Places) (m : Mode) (path : List ℕ) → ((p : List ℕ) → places p ≡ before p) → MayTake places m path → MayTake before m path
may_same before places Executable path same may = (may.0, sym (same path) ∙ may.1)
may_same before places Link path same may = (may.0, sym (same path) ∙ may.1)
may_same before places (Project id) path same may =
    let old = may.1 in
    let inside : IsInFolder before path = record { dir = old.dir; name = old.name; cut = old.cut; some = old.some; one = old.one; folder = sym (same old.dir) ∙ old.folder } in
    (sym (same path) ∙ may.0, inside)

takes_push : (before : Places) (said : List Listed) (places : Places) (listed : Listed) → TakesAll before said places → MayTake places listed.mode listed.path → TakesAll before (said ++ listed ∷ []) (take places listed)
takes_push before [] places listed takes may =
    (may_same before places listed.mode listed.path takes may, λ p. ap (λ (o : Option Member). cond (bytes_eq p listed.path) (changed listed.mode o) o) (takes p))
takes_push before (l ∷ said) places listed takes may = (takes.0, takes_push (take before l) said places listed takes.1 may)

-- The lines so far are taken, and the next has this number.
pub record Goes (before : Places) (text : List ℕ) (here : ℕ) (rest : List ℕ) (line : ℕ) (spots : List Spot) (standing : List Member) : Type 0 where
  pub said : List Listed
  pub reads : Reads 0 text said here rest
  pub places : Places
  pub takes : TakesAll before said places
  pub stand : Stand spots standing places
  pub number : line ≡ length said + 1

pub begins : (before : Places) (text rest : List ℕ) (spots : List Spot) (standing : List Member) → Stand spots standing before → text ≡ rest → Goes before text 0 rest 1 spots standing
begins before text rest spots standing stand e = record { said = []; reads = (refl, e); places = before; takes = λ path. refl; stand = stand; number = refl }

-- one line more is taken
pub goes_on : (before : Places) (text : List ℕ) (here : ℕ) (rest : List ℕ) (number : ℕ) (spots spots_now : List Spot) (standing standing_now : List Member) (line next : List ℕ) (now : ℕ) (listed : Listed) → (g : Goes before text here rest number spots standing) → TakesLine here rest line next → SaysListed line listed → now ≡ behind here line → IsTaken g.places listed.mode listed.path spots_now standing_now Yes → Goes before text now next (number + 1) spots_now standing_now
goes_on before text here rest number spots spots_now standing standing_now line next now listed g takes says e taken =
    let more = one_more 0 text g.said here rest line next listed g.reads takes says in
    let n = g.number in
    record {
      said = g.said ++ listed ∷ [];
      reads = subst (λ (k : ℕ). Reads 0 text (g.said ++ listed ∷ []) k next) (sym e) more;
      places = take g.places listed;
      takes = takes_push before g.said g.places listed g.takes taken.0;
      stand = taken.1;
      number = omega (arith, n, length-append g.said (listed ∷ []));
    }

-- a line that may not come
pub goes_not : (before : Places) (text : List ℕ) (here : ℕ) (rest : List ℕ) (number : ℕ) (spots : List Spot) (standing : List Member) (line next : List ℕ) (listed : Listed) → (g : Goes before text here rest number spots standing) → TakesLine here rest line next → SaysListed line listed → (MayTake g.places listed.mode listed.path → ⊥) → ExplainsLines before text (listing_fault (listing.BadModes number))
goes_not before text here rest number spots standing line next listed g takes says none = record {
  said = g.said;
  here = here;
  rest = rest;
  reads = g.reads;
  places = g.places;
  takes = g.takes;
  number = g.number;
  breaks = inr (listed, next, behind here line, (line, next, takes, says, (refl, refl)), none);
}

-- a line that is none
pub goes_wrong : (before : Places) (text : List ℕ) (here : ℕ) (rest : List ℕ) (number : ℕ) (spots : List Spot) (standing : List Member) (fault : ListingFault) → Goes before text here rest number spots standing → NextBreaks here rest number fault → ExplainsLines before text (listing_fault fault)
goes_wrong before text here rest number spots standing (listing.BadModes line) g breaks =
    let e = breaks.0 in
    let same : line ≡ length g.said + 1 = breaks.0 ∙ g.number in
    record { said = g.said; here = here; rest = rest; reads = g.reads; places = g.places; takes = g.takes; number = same; breaks = inl (refl, breaks.1) }
goes_wrong before text here rest number spots standing (listing.Limit which count) g breaks =
    record { said = g.said; here = here; rest = rest; reads = g.reads; places = g.places; takes = g.takes; breaks = breaks }
goes_wrong before text here rest number spots standing listing.ReadFault g breaks = tt
goes_wrong before text here rest number spots standing listing.Memory g breaks = tt
