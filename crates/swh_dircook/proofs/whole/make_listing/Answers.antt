use Rattle.std.proofs.Common.{ℕ, List, [], ◌∷◌, ◌++◌, length, refl, ap, ◌∙◌}
use Rattle.swh_outside.specs.Sink.{FileAt}
use Rattle.swh_dircook.specs.Listing.{listing_text}
use Rattle.swh_dircook.specs.Made.{FileMade, listing_path, yarded}
use Rattle.swh_fastwrite.specs.Sinks.{sinks_add_up}
use Rattle.swh_dircook.proofs.Lines.{into_whole, into_front, front_at, listing_made, listing_part}
use Rattle.swh_dircook.proofs.Makings.{some_at, made_some}
use Rattle.swh_dircook.proofs.YardParts.{same_yarded}
use Rattle.swh_dircook.proofs.whole.make_listing.Goals as goal

pub returns-in_err-place-clause-made : goal.returns-in_err-place-clause-made
returns-in_err-place-clause-made g c =
    let old = yarded (g.Y.Sink.begun c.args.yard.now) (g.Y.Sink.taken c.args.yard.now) in
    λ rows walk. made_some g.Y.Sink.tells old (FileMade (listing_path c.args.out.now) (listing_text rows) ∷ []) old c.from_residual.result c.from_residual.ensures.0
    (λ _. some_at old old [] (FileMade (listing_path c.args.out.now) (listing_text rows) ∷ []) refl)

pub returns-in_err-file-clause-made : goal.returns-in_err-file-clause-made
returns-in_err-file-clause-made g c =
    let old = yarded (g.Y.Sink.begun c.args.yard.now) (g.Y.Sink.taken c.args.yard.now) in
    let new = yarded (g.Y.Sink.begun c.file.new.self) (g.Y.Sink.taken c.file.new.self) in
    λ rows walk. made_some g.Y.Sink.tells old (FileMade (listing_path c.args.out.now) (listing_text rows) ∷ []) new c.from_residual-in_err-file.result c.from_residual-in_err-file.ensures.0
    (λ told. some_at old new [] (FileMade (listing_path c.args.out.now) (listing_text rows) ∷ [])
    (same_yarded (g.Y.Sink.begun c.file.new.self) (g.Y.Sink.begun c.args.yard.now) (g.Y.Sink.taken c.file.new.self) (g.Y.Sink.taken c.args.yard.now) (c.in_err-file.ensures.refused told) (c.file.ensures.same_taken told)))

pub returns-in_err-write_listing-clause-made : goal.returns-in_err-write_listing-clause-made
returns-in_err-write_listing-clause-made g c =
    let tells = g.Y.Sink.tells in
    let taken = g.Y.Sink.taken in
    let begun = g.Y.Sink.begun in
    let heard = g.Y.Sink.heard in
    let sums = sinks_add_up tells taken begun heard in
    let place = listing_path c.args.out.now in
    let at = c.as_str.ensures.value ∙ c.in_ok-place.ensures in
    λ rows walk. made_some tells (yarded (begun c.args.yard.now) (taken c.args.yard.now)) (FileMade place (listing_text rows) ∷ []) (yarded (begun c.write_listing.new.taker) (taken c.write_listing.new.taker))
    c.from_residual-in_err-write_listing.result c.from_residual-in_err-write_listing.ensures.0
    (λ told. listing_part tells taken begun heard sums place (listing_text rows) c.args.yard.now c.file.new.self c.write_listing.new.taker told
    (c.in_ok-file.ensures.made told ∙ ap (λ (p : List ℕ). begun c.args.yard.now ++ FileAt p (length (taken c.args.yard.now)) ∷ []) at) (c.file.ensures.same_taken told)
    (front_at tells taken begun heard sums c.file.new.self c.write_listing.new.taker (listing_text rows) c.new-held.result.items c.new-held.ensures.items ((c.in_err-write_listing.ensures.bytes rows walk).err)))

pub returns-in_err-flush-clause-made : goal.returns-in_err-flush-clause-made
returns-in_err-flush-clause-made g c =
    let tells = g.Y.Sink.tells in
    let taken = g.Y.Sink.taken in
    let begun = g.Y.Sink.begun in
    let heard = g.Y.Sink.heard in
    let sums = sinks_add_up tells taken begun heard in
    let place = listing_path c.args.out.now in
    let at = c.as_str.ensures.value ∙ c.in_ok-place.ensures in
    λ rows walk. made_some tells (yarded (begun c.args.yard.now) (taken c.args.yard.now)) (FileMade place (listing_text rows) ∷ []) (yarded (begun c.flush.new.taker) (taken c.flush.new.taker))
    c.from_residual-in_err-flush.result c.from_residual-in_err-flush.ensures.0
    (λ told. listing_part tells taken begun heard sums place (listing_text rows) c.args.yard.now c.file.new.self c.flush.new.taker told
    (c.in_ok-file.ensures.made told ∙ ap (λ (p : List ℕ). begun c.args.yard.now ++ FileAt p (length (taken c.args.yard.now)) ∷ []) at) (c.file.ensures.same_taken told)
    (into_front tells taken begun heard sums c.file.new.self c.write_listing.new.taker c.flush.new.taker (listing_text rows) c.new-held.result.items c.write_listing.new.held.items c.new-held.ensures.items
    ((c.in_ok-write_listing.ensures.bytes rows walk).ok) (c.in_err-flush.ensures.bytes.err)))

pub returns-clause-made : goal.returns-clause-made
returns-clause-made g c =
    let tells = g.Y.Sink.tells in
    let taken = g.Y.Sink.taken in
    let begun = g.Y.Sink.begun in
    let heard = g.Y.Sink.heard in
    let sums = sinks_add_up tells taken begun heard in
    let place = listing_path c.args.out.now in
    let at = c.as_str.ensures.value ∙ c.in_ok-place.ensures in
    λ rows walk. record {
      ok = λ told. listing_made tells taken begun heard sums place (listing_text rows) c.args.yard.now c.file.new.self c.flush.new.taker told
          (c.in_ok-file.ensures.made told ∙ ap (λ (p : List ℕ). begun c.args.yard.now ++ FileAt p (length (taken c.args.yard.now)) ∷ []) at) (c.file.ensures.same_taken told)
          (into_whole tells taken begun heard sums c.file.new.self c.write_listing.new.taker c.flush.new.taker (listing_text rows) c.new-held.result.items c.write_listing.new.held.items c.flush.new.held.items c.new-held.ensures.items
          ((c.in_ok-write_listing.ensures.bytes rows walk).ok) c.in_ok-flush.ensures.bytes.ok c.in_ok-flush.ensures.emptied);
      err = λ told. tt;
    }
