-- What an item of a folder's list says.
use Rattle.std.specs.Prelude.{string_bytes}
use Rattle.swh_outside.specs.Folder.{FolderEntry}
use Rattle.swh_outside.specs.declared.folder.Item.{Item}

-- an item as an entry of the folder's list
abbrev pub listed : Item → FolderEntry
listed item = record { name = string_bytes item.name; what = item.what }
