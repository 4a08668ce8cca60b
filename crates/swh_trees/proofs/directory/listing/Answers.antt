use Rattle.std.proofs.Common.{◌++◌, ◌∷◌, [], ◌+◌, List, drop, length, sym, ap, ◌∙◌, ◌≡◌, arith}
use Rattle.std.proofs.lemmas.List.{map_push, append_assoc}
use Rattle.std.proofs.lemmas.List.Elements.{All-push}
use Rattle.swh_base.specs.Directory.{DirectoryEntry}
use Rattle.swh_dirfmt.specs.declared.entry.DirEntry.{DirEntry}
use Rattle.swh_dirfmt.specs.Entries.{entry_view, entry_views}
use Rattle.swh_forest.specs.Arena.{forest_of}
use Rattle.swh_entries.specs.Keys.{texts}
use Rattle.swh_trees.specs.Listing.{directory}
use Rattle.swh_trees.proofs.Listings.{directory-more}
use Rattle.swh_trees.proofs.directory.listing.Goals as goal

pub loop-e-preserved : goal.loop-e-preserved
loop-e-preserved c =
    let names = texts c.args.names.now in
    let es = c.args.entries.now in
    let i = c.loop-e.e-index in
    let out = c.loop-e.out.items in
    let one = c.in_ok-listed.field-0 in
    record {
      same = λ id at ids.
          let rest = directory id (forest_of names at (drop (i + 1) es)) in
          rw c.in_ok-push.ensures.items (
          ap (λ (r : List DirectoryEntry). r ++ rest) (map_push entry_view out one)
          ∙ append_assoc (entry_views out) (entry_view one ∷ []) rest
          ∙ ap (λ (r : DirectoryEntry). entry_views out ++ r ∷ rest) (c.in_ok-listed.ensures.entry id at ids)
          ∙ ap (λ (r : List DirectoryEntry). entry_views out ++ r) (sym (directory-more id names at es i _ (omega arith)))
          ∙ c.loop-e.invariant.same id at ids);
      long = rw c.in_ok-push.ensures.items (All-push (λ (r : DirEntry). length r.id ≡ 20) out one c.loop-e.invariant.long c.in_ok-listed.ensures.id);
    }
