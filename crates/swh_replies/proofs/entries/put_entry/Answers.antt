use Rattle.std.proofs.Common.{◌∙◌}
use Rattle.swh_dirfmt.specs.Entries.{entry_of}
use Rattle.swh_replies.proofs.Listed.{where_ok, one, then, entry_written}
use Rattle.swh_replies.proofs.entries.put_entry.Goals as goal

pub returns : goal.returns
returns c =
    let opened = one {new = c.begin_object.new.self} c.in_ok-begin_object.ensures.ok c.in_ok-begin_object.ensures.room.0 in
    let named = then opened c.in_ok-put_text.ensures in
    let permitted = then named c.in_ok-put_number.ensures in
    let aimed = then permitted c.in_ok-put_text-2.ensures in
    let typed = then aimed c.in_ok-put_text-3.ensures in
    let is_name = c.as_str.ensures.value ∙ c.in_ok-name.ensures in
    let is_target = c.as_str-2.ensures.value ∙ c.in_ok-target.ensures in
    where_ok c.end_object.result
    (λ closed. entry_written (entry_of c.args.entry.now) c.as_str.result.now c.as_str-2.result.now c.entry_type.result.now c.perms_of.result is_name c.perms_of.ensures is_target c.entry_type.ensures
    (then typed (one {new = c.end_object.new.self} closed c.end_object.ensures.room.0))) c.end_object.ensures.ok
