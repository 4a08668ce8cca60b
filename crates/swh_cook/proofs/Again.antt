-- What was made of a name is the name again.
use Rattle.std.proofs.Common.{◌≡◌, ◌≢◌, ℕ, Option, Some, List, [], ◌∷◌, ◌++◌, Contains, refl, sym, ◌∙◌, subst, arith}
use Rattle.std.proofs.lemmas.List.Elements.{Contains-append_right}
use Rattle.swh_base.specs.declared.kind.Kind.{Kind}
use Rattle.swh_base.specs.declared.kind.Kind.TheVariants.{Content, Directory, Revision, Release, Snapshot}
use Rattle.swh_base.specs.declared.name.Name.{Name}
use Rattle.swh_base.specs.Name.{IsName}
use Rattle.swh_outside.specs.Folder.{Tree}
use Rattle.swh_model.specs.Archive.{Bodies, body_of, IsGraphOf}
use Rattle.swh_model.specs.declared.event.Event.{Event}
use Rattle.swh_model.specs.Step.{IsHistory, replay}
use Rattle.swh_pathwalk.specs.Tree.{Row}
use Rattle.swh_fastcook.specs.Cook.{IsCarriedStream, IsCookedText, IsHeadOf, IsTextOfKind}
use Rattle.swh_dircook.specs.Cook.{IsCarriedFolder, IsFolderOf}
use Rattle.swh_dircook.specs.Listing.{listing_text}
use Rattle.swh_dircook.specs.Made.{Made, FileMade, FolderMade, all_made, folder_made, listing_path}
use Rattle.swh_roundtrip.specs.Sound.{AreReachedOfBytes}
use Rattle.swh_roundtrip.proofs.Histories.{named_bodies, bodies_in_limit}
use Rattle.swh_roundtrip.proofs.Reached.{order_of_bytes, reached_back}
use Rattle.swh_cook.specs.FolderBack.{AreGoodBodies, HoldsMade}
use Rattle.swh_cook.proofs.Law.{loads_back}
use Rattle.swh_cook.specs.Back.{IsBodyAgain, IsFolderAgain, IsStreamAgain, IsAgainOf, IsAgain}
use Rattle.swh_cook.specs.Cook.{IsFileOf, AreMadeOf, AreMade, IsCarriedOf, IsCarried}

module _
    (id : Kind → List ℕ → List ℕ)
    (h : List Event)
    (children_of : Name → Option (List Name))
    (root : Name)
    (out : List ℕ)
    (made : List Made)
    (head : Option (List ℕ))
    (happens : IsHistory id h)
    (graph : IsGraphOf (replay h).bodies children_of)
    (is_name : IsName root)
    (of_bytes : AreReachedOfBytes (replay h).bodies children_of root)
    (is_head : IsHeadOf (replay h).bodies root head)
  where
    abbrev bodies : Bodies
    bodies = (replay h).bodies

    body_again : root.kind ≡ Content → IsFileOf bodies children_of root out made → IsBodyAgain id bodies children_of root out made
    body_again kind f = record { body = f.text; held = subst (λ (k : Kind). IsTextOfKind bodies children_of root k f.text) kind f.is; are = f.are }

    good : AreGoodBodies id bodies
    good = record { named = named_bodies id h happens; short = bodies_in_limit id h happens }

    -- the listing is the last that was made
    last_made : (rows : List Row) → Contains (folder_made bodies out rows) (FileMade (listing_path out) (listing_text rows))
    last_made rows =
        let listing : Made = FileMade (listing_path out) (listing_text rows) in
        let last : Contains (listing ∷ []) listing = (0, omega arith, refl) in
        Contains-append_right (FolderMade out ∷ all_made bodies out rows) (listing ∷ []) listing last

    folder_again : root.kind ≡ Directory → IsCarriedFolder bodies children_of root → IsFolderOf bodies root out made → IsFolderAgain id bodies children_of root out made
    folder_again kind c f = record {
      listing = listing_text f.rows;
      beside = subst (λ (ms : List Made). Contains ms (FileMade (listing_path out) (listing_text f.rows))) (sym f.are) (last_made f.rows);
      back = λ tree holds. loads_back id bodies children_of root c.order out made tree good (order_of_bytes bodies children_of root c.order c.is_order of_bytes) graph kind is_name.0 c.is_order c.carried f holds;
    }

    stream_again : root.kind ≢ Content → root.kind ≢ Directory → IsCarriedStream bodies children_of root → IsFileOf bodies children_of root out made → IsStreamAgain id bodies children_of root out made head
    stream_again no_content no_directory c f = record {
      text = f.text;
      are = f.are;
      order = c.order;
      is_order = c.is_order;
      back = reached_back id h children_of root f.text head c happens graph of_bytes no_content no_directory f.is is_head;
    }

    other : (kind apart : Kind) → root.kind ≡ kind → (kind ≡ apart → ⊥) → root.kind ≢ apart
    other kind apart is differs e = differs (sym is ∙ e)

    again_of : (kind : Kind) → root.kind ≡ kind → IsCarriedOf bodies children_of root kind → AreMadeOf bodies children_of root kind out made → IsAgainOf id bodies children_of root out kind made head
    again_of Content is c are = body_again is are
    again_of Directory is c are = folder_again is c are
    again_of Revision is c are = stream_again (other Revision Content is (λ e. cc)) (other Revision Directory is (λ e. cc)) c are
    again_of Release is c are = stream_again (other Release Content is (λ e. cc)) (other Release Directory is (λ e. cc)) c are
    again_of Snapshot is c are = stream_again (other Snapshot Content is (λ e. cc)) (other Snapshot Directory is (λ e. cc)) c are

    -- out of the archive of the history
    pub made_again : IsCarried bodies children_of root → AreMade bodies children_of root out made → IsAgain id bodies children_of root out made head
    made_again c are = again_of root.kind refl c are
