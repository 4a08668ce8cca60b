use Rattle.std.proofs.Common.{◌≡◌, ◌∙◌, ap, not, true, false, Bool, Option, Some, None, arith}
use Rattle.std.specs.Prelude.{IfNone, is_some}
use Rattle.swh_swhid.specs.declared.swhid.Key.{Key}
use Rattle.swh_swhid.specs.declared.swhid.Swhid.{Swhid}
use Rattle.swh_swhid.specs.Qualifier.{is_free}
use Rattle.swh_swhid.proofs.Places.{full_breaks, next_place, next_breaks}
use Rattle.swh_swhid.proofs.parsing.read_next.Goals as goal

none_free : (s : Swhid) (o : Option Key) → IfNone o ((key : Key) → is_free s key ≡ false) → is_some o ≡ false → (key : Key) → is_free s key ≡ false
none_free s None h e = h
none_free s (Some key) h e = absurd cc

none_found : (o : Option Key) (b : Bool) → is_some o ≡ not b → b ≡ true → is_some o ≡ false
none_found o b e t = e ∙ ap not t

pub returns-then-is_none-clause-err : goal.returns-then-is_none-clause-err
returns-then-is_none-clause-err c =
    rw c.bad.ensures
    (full_breaks c.args.text.now c.args.at c.args.swhid.now c.requires.place c.requires.within (none_free c.args.swhid.now c.free_key.result c.free_key.ensures.none (none_found c.free_key.result c.is_none.result c.is_none.ensures c.if-is_none.true)))

pub returns-in-Ok-clause-ok : goal.returns-in-Ok-clause-ok
returns-in-Ok-clause-ok c =
    let within = rw c.behind-rest.ensures at c.piece_end-end.ensures.within in
    let whole = rw c.behind-rest.ensures at c.piece_end-end.ensures.whole in
    let closed = rw c.behind-rest.ensures at c.piece_end-end.ensures.closed in
    let adds = rw (c.front.ensures, c.behind-rest.ensures) at c.in-Ok.ensures.ok in
    (omega arith, next_place c.args.text.now c.args.at c.piece_end-end.result c.args.swhid.now c.add_qualifier.new.swhid c.requires.place c.requires.within within whole closed adds)

pub returns-in-Err-BadText-clause-err : goal.returns-in-Err-BadText-clause-err
returns-in-Err-BadText-clause-err c =
    let whole = rw c.behind-rest.ensures at c.piece_end-end.ensures.whole in
    let closed = rw c.behind-rest.ensures at c.piece_end-end.ensures.closed in
    let breaks = rw (c.front.ensures, c.behind-rest.ensures) at (rw c.in-Err-BadText.field-0-is at c.in-Err-BadText.ensures.err) in
    next_breaks c.args.text.now c.args.at c.piece_end-end.result c.in-Err-BadText.within c.args.swhid.now c.requires.place c.requires.within whole closed breaks
