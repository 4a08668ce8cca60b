-- What is replied to a posted load: what its line says.
use Rattle.std.specs.Prelude.{ℕ, List, codes}
use Rattle.serde_json.specs.Data.{Data, string, object, no_members, member}
use Rattle.swh_base.specs.declared.request.Reply.{Reply}
use Rattle.swh_replies.specs.Json.{text_data, number_data, tree_reply}

-- a load: its origin, its visit, the status with which this ended, and its snapshot, or why it has none
abbrev pub load_data : List ℕ → ℕ → List ℕ → List ℕ → Data
load_data origin visit status detail =
    object (member (codes "detail") (string detail)
    (member (codes "origin") (text_data origin)
    (member (codes "status") (string status)
    (member (codes "visit") (number_data visit) no_members))))

-- the reply to a load whose visit has ended
abbrev pub load_reply : List ℕ → ℕ → List ℕ → List ℕ → Reply
load_reply origin visit status detail = tree_reply 200 (load_data origin visit status detail)
