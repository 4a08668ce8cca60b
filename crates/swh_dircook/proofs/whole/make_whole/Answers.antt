use Rattle.std.proofs.Common.{[], ◌∷◌}
use Rattle.swh_dircook.specs.Listing.{listing_text}
use Rattle.swh_dircook.specs.Made.{FolderMade, FileMade, all_made, folder_made, listing_path, yarded}
use Rattle.swh_dircook.proofs.Makings.{made_some, some_behind, makes_behind, after_folder, after_rows}
use Rattle.swh_dircook.proofs.whole.make_whole.Goals as goal

pub returns-in_err-make_rows-clause-made : goal.returns-in_err-make_rows-clause-made
returns-in_err-make_rows-clause-made g c =
    let bodies = (g.L.Look.archive c.args.look.now).bodies in
    let out = c.args.out.now in
    let old = yarded (g.Y.Sink.begun c.args.yard.now) (g.Y.Sink.taken c.args.yard.now) in
    let mid = yarded (g.Y.Sink.begun c.folder.new.self) (g.Y.Sink.taken c.folder.new.self) in
    let new = yarded (g.Y.Sink.begun c.make_rows.new.yard) (g.Y.Sink.taken c.make_rows.new.yard) in
    λ rows walk. made_some g.Y.Sink.tells old (folder_made bodies out rows) new c.from_residual-in_err-make_rows.result c.from_residual-in_err-make_rows.ensures.0
    (λ told. some_behind old mid new (FolderMade out ∷ []) (all_made bodies out rows) (FileMade (listing_path out) (listing_text rows) ∷ [])
    (after_folder (g.Y.Sink.begun c.args.yard.now) (g.Y.Sink.begun c.folder.new.self) (g.Y.Sink.taken c.args.yard.now) (g.Y.Sink.taken c.folder.new.self) out (c.in_ok-folder.ensures.made told) (c.folder.ensures.same_taken told))
    ((c.in_err-make_rows.ensures.made rows walk).err told))

pub returns-clause-made : goal.returns-clause-made
returns-clause-made g c =
    let bodies = (g.L.Look.archive c.args.look.now).bodies in
    let out = c.args.out.now in
    let old = yarded (g.Y.Sink.begun c.args.yard.now) (g.Y.Sink.taken c.args.yard.now) in
    let first = yarded (g.Y.Sink.begun c.folder.new.self) (g.Y.Sink.taken c.folder.new.self) in
    let mid = yarded (g.Y.Sink.begun c.make_rows.new.yard) (g.Y.Sink.taken c.make_rows.new.yard) in
    let new = yarded (g.Y.Sink.begun c.make_listing.new.yard) (g.Y.Sink.taken c.make_listing.new.yard) in
    λ rows walk. makes_behind g.Y.Sink.tells old mid new (FolderMade out ∷ all_made bodies out rows) (FileMade (listing_path out) (listing_text rows) ∷ []) c.make_listing.result
    (λ told. after_rows old first mid out (all_made bodies out rows)
    (after_folder (g.Y.Sink.begun c.args.yard.now) (g.Y.Sink.begun c.folder.new.self) (g.Y.Sink.taken c.args.yard.now) (g.Y.Sink.taken c.folder.new.self) out (c.in_ok-folder.ensures.made told) (c.folder.ensures.same_taken told))
    ((c.in_ok-make_rows.ensures.made rows walk).ok told))
    (c.make_listing.ensures.made rows walk)
