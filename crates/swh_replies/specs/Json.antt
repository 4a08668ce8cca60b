-- What is answered as JSON: visits, artifacts and refusals as trees, with members by their keys' bytes.
use Rattle.std.specs.Prelude.{ℕ, ◌==◌, if◌then◌else◌, true, Option, Some, None, List, [], ◌∷◌, map, reverse, length, is_some, codes}
use Rattle.hex.specs.Hex.{encode_lower}
use Rattle.serde_json.specs.Data.{Data, null, boolean, number, unsigned, string, array, object, Members, no_members, member, put}
use Rattle.serde_json.specs.View.{items_of}
use Rattle.serde_json.specs.Written.{compact_text}
use Rattle.swh_base.specs.declared.name.Name.{Name}
use Rattle.swh_base.specs.declared.request.Reply.{Reply}
use Rattle.swh_base.specs.Directory.{DirectoryEntry}
use Rattle.swh_base.specs.Escape.{escaped}
use Rattle.swh_base.specs.Revision.{Revision}
use Rattle.swh_base.specs.Release.{Release}
use Rattle.swh_base.specs.Snapshot.{BranchTarget, ToObject, ToBranch, ToNothing, SnapshotBranch, target_kind_word}
use Rattle.swh_base.specs.Visit.{visit_kind_word, status_word, last_mark}
use Rattle.swh_model.specs.declared.event.Visit.{Visit}
use Rattle.swh_model.specs.Archive.{Bodies, body_of}
use Rattle.swh_swhid.specs.Core.{core_text}

-- bytes as they stand in JSON: escaped
abbrev pub text_data : List ℕ → Data
text_data bytes = string (escaped bytes)

-- an id's forty digits
abbrev pub id_data : List ℕ → Data
id_data id = string (encode_lower id)

-- an id's forty digits, or null
abbrev pub optional_id_data : Option (List ℕ) → Data
optional_id_data None = null
optional_id_data (Some id) = id_data id

-- a number that is not negative
abbrev pub number_data : ℕ → Data
number_data n = number (unsigned n)

-- a list of values
abbrev pub array_data : {X : Type 0} → (X → Data) → List X → Data
array_data data_of xs = array (items_of (map data_of xs))

-- values at keys, which stand in the order of the keys' bytes
abbrev pub members_data : {X : Type 0} → (X → List ℕ) → (X → Data) → List X → Members → Members
members_data key data_of [] members = members
members_data key data_of (x ∷ xs) members = members_data key data_of xs (put (key x) (data_of x) members)

-- ---- visits

-- a visit of an origin: its last status, and the snapshot that this has
abbrev pub visit_data : List ℕ → Visit → Data
visit_data origin v =
    object (member (codes "date") (number_data v.date)
    (member (codes "origin") (text_data origin)
    (member (codes "snapshot") (optional_id_data (last_mark v.statuses).1)
    (member (codes "status") (string (status_word (last_mark v.statuses).0))
    (member (codes "type") (string (visit_kind_word v.kind))
    (member (codes "visit") (number_data v.number) no_members))))))

-- the visits of an origin, the latest first
abbrev pub visits_data : List ℕ → List Visit → Data
visits_data origin visits = array_data (visit_data origin) (reverse visits)

-- an origin, and how many visits it has
abbrev pub origin_data : List ℕ → List Visit → Data
origin_data origin visits =
    object (member (codes "url") (text_data origin)
    (member (codes "visits") (number_data (length visits)) no_members))

-- ---- artifacts

-- a revision: its directory, its id, its parents in order, and the rest of its body
abbrev pub revision_data : List ℕ → Revision → Data
revision_data id r =
    object (member (codes "directory") (id_data r.directory)
    (member (codes "id") (id_data id)
    (member (codes "parents") (array_data id_data r.parents)
    (member (codes "rest") (text_data r.rest) no_members))))

-- the ids of revisions
abbrev pub log_data : List Name → Data
log_data names = array_data (λ n. id_data n.id) names

-- a release: its id, its name, the rest of its body, and the object that it names
abbrev pub release_data : List ℕ → Release → Data
release_data id r =
    object (member (codes "id") (id_data id)
    (member (codes "name") (text_data r.tag)
    (member (codes "rest") (text_data r.rest)
    (member (codes "target") (id_data r.object.id)
    (member (codes "target_type") (string (target_kind_word r.object.kind)) no_members)))))

-- the permissions of an entry (stat(2), st_mode) for the number that its mode's digits write
abbrev pub perms_of : ℕ → ℕ
perms_of mode =
    if mode == 100644 then 33188
    else if mode == 100755 then 33261
    else if mode == 120000 then 40960
    else if mode == 40000 then 16384
    else 57344

-- what an entry is: a folder, a revision of another project, or a file
abbrev pub entry_type : ℕ → List ℕ
entry_type mode =
    if mode == 40000 then codes "dir"
    else if mode == 160000 then codes "rev"
    else codes "file"

-- an entry of a directory: its name, its permissions, and what it leads to
abbrev pub entry_data : DirectoryEntry → Data
entry_data e =
    object (member (codes "name") (text_data e.name)
    (member (codes "perms") (number_data (perms_of e.mode))
    (member (codes "target") (id_data e.id)
    (member (codes "type") (string (entry_type e.mode)) no_members))))

-- the entries of a directory, in their order
abbrev pub directory_data : List DirectoryEntry → Data
directory_data entries = array_data entry_data entries

-- what a branch leads to, and the word for it
abbrev pub target_members : Data → List ℕ → Data
target_members target word = object (member (codes "target") target (member (codes "target_type") (string word) no_members))

-- what a branch leads to; null where it leads nowhere
abbrev pub target_data : BranchTarget → Data
target_data (ToObject n) = target_members (id_data n.id) (target_kind_word n.kind)
target_data (ToBranch name) = target_members (text_data name) (codes "alias")
target_data ToNothing = null

-- what the branches lead to, by their escaped names
abbrev pub branches_data : List SnapshotBranch → Members
branches_data branches = members_data (λ b. escaped b.name) (λ b. target_data b.target) branches no_members

-- a snapshot: what its branches lead to, and its id
abbrev pub snapshot_data : List ℕ → List SnapshotBranch → Data
snapshot_data id branches =
    object (member (codes "branches") (object (branches_data branches))
    (member (codes "id") (id_data id) no_members))

-- the length of a body, and the core identifier of its name
abbrev pub content_data : Name → List ℕ → Data
content_data name body =
    object (member (codes "length") (number_data (length body))
    (member (codes "swhid") (string (core_text name)) no_members))

-- the object to which a SWHID leads: its id and the word of its kind
abbrev pub resolved_data : Name → Data
resolved_data name =
    object (member (codes "object_id") (id_data name.id)
    (member (codes "object_type") (string (target_kind_word name.kind)) no_members))

-- whether a body is held under a name
abbrev pub is_known_data : Bodies → Name → Data
is_known_data bodies name = object (member (codes "known") (boolean (is_some (body_of bodies name))) no_members)

-- of each of the names whether a body is held under it; a name that stands twice is told once
abbrev pub known_data : Bodies → List Name → Data
known_data bodies names = object (members_data core_text (is_known_data bodies) names no_members)

-- ---- refusals

-- the word of a refusal
abbrev pub error_data : List ℕ → Data
error_data word = object (member (codes "error") (string word) no_members)

-- the name under which nothing is held
abbrev pub not_held_data : Name → Data
not_held_data name = object (member (codes "error") (string (codes "not held")) (member (codes "name") (string (core_text name)) no_members))

-- an object that is not cooked, and the word that tells why
abbrev pub uncarried_data : Name → List ℕ → Data
uncarried_data name why =
    object (member (codes "error") (string (codes "uncarried"))
    (member (codes "name") (string (core_text name))
    (member (codes "why") (string why) no_members)))

-- the number of the component that leads nowhere
abbrev pub no_path_data : ℕ → Data
no_path_data component = object (member (codes "component") (number_data component) (member (codes "error") (string (codes "no path")) no_members))

-- ---- replies

-- a reply of this status with a tree as its body
abbrev pub tree_reply : ℕ → Data → Reply
tree_reply status tree = record { status = status; json = true; body = compact_text tree }

-- the reply with the status of HTTP and the word of a refusal
abbrev pub error_reply : ℕ → List ℕ → Reply
error_reply status word = tree_reply status (error_data word)
