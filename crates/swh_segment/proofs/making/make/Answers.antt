use Rattle.std.proofs.Common.{rules, ◌≡◌, Err, inr, ◌∙◌, ap, sym, subst, Bool, ℕ, ◌≤◌, List, length, ◌++◌}
use Rattle.swh_outside.specs.Disk.{File}
use Rattle.swh_outside.specs.Files.{Files, FilesBreaks, on, files_of, files_done}
use Rattle.swh_outside.proofs.Numbered.{files_stops, files_goes_on, ledger_breaks}
use Rattle.swh_segment.specs.Making.{barriers, magic_calls, needs_clearing}
use Rattle.swh_segment.specs.declared.fault.MakeFault.TheVariants.{Disk}
use Rattle.swh_segment.proofs.Ends.{makes_failed, makes_done, both_done, some_there}
use Rattle.swh_segment.proofs.making.make.Goals as goal

pub returns-in_err-settle-clause-calls : goal.returns-in_err-settle-clause-calls
returns-in_err-settle-clause-calls g c told =
    let ledger = g.D.Disk.file c.args.ledger.now in
    let store = g.D.Disk.file c.args.store.now in
    let is : c.from_residual-in_err-settle.result ≡ Err Disk = search rules in
    let start = ap (λ (f : File). files_of f store) (c.in_ok-clears.ensures.reads.same told) in
    let breaks = subst (λ (f : Files). FilesBreaks barriers f (files_of (g.D.Disk.file c.settle.new.ledger) (g.D.Disk.file c.settle.new.store))) start (c.in_err-settle.ensures.runs told).err in
    makes_failed _ _ _ is (inr (files_stops barriers (on 0 (magic_calls (needs_clearing ledger.seen))) _ _ breaks))

pub returns-in_err-lay_magic-clause-calls : goal.returns-in_err-lay_magic-clause-calls
returns-in_err-lay_magic-clause-calls g c told =
    let ledger = g.D.Disk.file c.args.ledger.now in
    let store = g.D.Disk.file c.args.store.now in
    let is : c.from_residual-in_err-lay_magic.result ≡ Err Disk = search rules in
    let start = ap (λ (f : File). files_of f store) (c.in_ok-clears.ensures.reads.same told) in
    let now = files_of (g.D.Disk.file c.settle.new.ledger) (g.D.Disk.file c.settle.new.store) in
    let settled = subst (λ (f : Files). now ≡ files_done barriers f) start (c.in_ok-settle.ensures.runs told).ok in
    let laid = ledger_breaks _ _ _ (g.D.Disk.file c.settle.new.store) (c.in_err-lay_magic.ensures.runs told).err in
    let breaks = files_goes_on barriers (on 0 (magic_calls c.in_ok-clears.clears)) _ _ _ settled laid in
    makes_failed _ _ _ is (inr (subst (λ (b : Bool). FilesBreaks (barriers ++ on 0 (magic_calls b)) (files_of ledger store) (files_of (g.D.Disk.file c.lay_magic.new.ledger) (g.D.Disk.file c.settle.new.store))) (c.in_ok-clears.ensures.clears told) breaks))

pub lay_magic-requires-after_bounds : goal.lay_magic-requires-after_bounds
lay_magic-requires-after_bounds g c κs outlives told clear =
    let settled = (c.in_ok-settle.ensures.runs told).ok in
    let same = ap (λ (f : Files). (f 0).seen) settled ∙ ap (λ (f : File). f.seen) (c.in_ok-clears.ensures.reads.same told) in
    subst (λ (bytes : List ℕ). 1 ≤ length bytes) (sym same) (some_there _ (sym (c.in_ok-clears.ensures.clears told) ∙ clear))

pub returns-clause-calls : goal.returns-clause-calls
returns-clause-calls g c told =
    let ledger = g.D.Disk.file c.args.ledger.now in
    let store = g.D.Disk.file c.args.store.now in
    let start = ap (λ (f : File). files_of f store) (c.in_ok-clears.ensures.reads.same told) in
    let ledger_now = g.D.Disk.file c.settle.new.ledger in
    let store_now = g.D.Disk.file c.settle.new.store in
    let settled = subst (λ (f : Files). files_of ledger_now store_now ≡ files_done barriers f) start (c.in_ok-settle.ensures.runs told).ok in
    let laid = (c.in_ok-lay_magic.ensures.runs told).ok in
    makes_done (files_of ledger store) _ (subst (λ (b : Bool). files_of (g.D.Disk.file c.lay_magic.new.ledger) store_now ≡ files_done (barriers ++ on 0 (magic_calls b)) (files_of ledger store)) (c.in_ok-clears.ensures.clears told)
    (both_done (magic_calls c.in_ok-clears.clears) (files_of ledger store) ledger_now store_now _ settled laid))
