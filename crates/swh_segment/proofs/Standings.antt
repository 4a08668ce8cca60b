-- Files that stand for a history, with nothing written since a barrier, at the device calls of the next event.
use Rattle.std.proofs.Common.{inl, inr, ℕ, ◌+◌, List, [], ◌∷◌, ◌++◌, length, sym, ap, ◌∙◌, subst, refl, arith}
use Rattle.swh_outside.specs.Files.{Files, FilesBreaks, EachImages, EachFilesMoment, files_done}
use Rattle.swh_outside.proofs.Images.{at_rest_image}
use Rattle.swh_outside.proofs.Numbered.{files_left_by}
use Rattle.swh_model.specs.declared.event.Event.{Event}
use Rattle.swh_model.specs.Limits.{store_length, records_length}
use Rattle.swh_format.specs.Events as format
use Rattle.swh_format.specs.EventRecord.{coded_record, AreCodable}
use Rattle.swh_format.specs.Stands.{StandsFor, written, all_written}
use Rattle.swh_format.proofs.HistoryFiles.{runs-written, written-at}
use Rattle.swh_format.proofs.Lengths.{runs-length, ledger-length}
use Rattle.swh_segment.specs.Settled.{AreSettled}
use Rattle.swh_segment.proofs.EventsCrash.{event_moments, event_settled}
use Rattle.swh_segment.specs.Calls.{calls_for}
use Rattle.swh_segment.specs.Standing.{AreStanding, WithOrWithout}

-- Files that stand for a history, with nothing written since a barrier.
module _ (files : Files) (h : List Event) (standing : AreStanding (files 0) (files 1) h) where
  pub settled : AreSettled files (all_written 0 h) (store_length h) (8 + records_length h)
  settled = record {
    ledger = record {
      rests = standing.ledger_rests;
      stands = standing.stand.files.ledger_stands;
      end_is = let n = ledger-length h in omega (arith, n);
    };
    store = standing.store_rests;
    rest = standing.stand.files.rest;
    begins = standing.stand.files.store_begins;
    store_end_is = ap length (runs-written 0 h) ∙ runs-length h;
  }

  -- a crash leaves the history
  pub still : EachImages files (λ images. StandsFor (images 0) (images 1) h)
  still = record {
    has = λ images are.
        let ledger = at_rest_image (files 0) (images 0) standing.ledger_rests (are.each 0) in
        let store = at_rest_image (files 1) (images 1) standing.store_rests (are.each 1) in
        subst (λ (l : List ℕ). StandsFor l (images 1) h) (sym ledger) (subst (λ (l : List ℕ). StandsFor (files 0).seen l h) (sym store) standing.stand);
  }

  module _ (e : Event) (codable : AreCodable 0 (h ++ e ∷ [])) where
    -- one event, at each of its calls
    pub one_moments : EachFilesMoment (calls_for h e) files (WithOrWithout h e)
    one_moments =
        let each = event_moments files (all_written 0 h) (written (store_length h) e) (store_length h) (8 + records_length h) settled (coded_record (store_length h) e ++ 0 ∷ []) (record { is = refl }) in
        record {
          has = λ n. record {
            has = λ images are. elim ((each.has n).has images are) [
              | inl without ↦ inl (record { files = without; codable = standing.stand.codable })
              | inr with_it ↦ inr (record { files = subst (λ (es : List format.Append). format.FilesStand (images 0) (images 1) es) (sym (written-at h e (store_length h) refl)) with_it; codable = codable })
            ];
          };
        }

    -- and where one of them failed
    pub event_left : (new : Files) → FilesBreaks (calls_for h e) files new → EachImages new (WithOrWithout h e)
    event_left new breaks = files_left_by (calls_for h e) files new (WithOrWithout h e) one_moments breaks

    -- and after them
    pub one_added : AreStanding (files_done (calls_for h e) files 0) (files_done (calls_for h e) files 1) (h ++ e ∷ [])
    one_added =
        let new = event_settled files (all_written 0 h) (written (store_length h) e) (store_length h) (8 + records_length h) settled (coded_record (store_length h) e ++ 0 ∷ []) (record { is = refl }) in
        let now = files_done (calls_for h e) files in
        let stands : format.FilesStand (now 0).seen (now 1).seen (all_written 0 h ++ written (store_length h) e ∷ []) = record { ledger_stands = new.ledger.stands; rest = new.rest; store_begins = new.begins } in
        record {
          ledger_rests = new.ledger.rests;
          store_rests = new.store;
          stand = record { files = subst (λ (es : List format.Append). format.FilesStand (now 0).seen (now 1).seen es) (sym (written-at h e (store_length h) refl)) stands; codable = codable };
        }
