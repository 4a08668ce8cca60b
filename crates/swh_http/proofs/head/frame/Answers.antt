use Rattle.std.proofs.Common.{◌≤◌, arith, length, []}
use Rattle.httparse.specs.Spans.{IsRequestAt, IsRequestWithin}
use Rattle.swh_http.proofs.Heads.{few-fields, within-more}
use Rattle.swh_http.proofs.head.frame.Goals as goal

pub frame_of-requires : goal.frame_of-requires
frame_of-requires c =
    let few = few-fields c.args.head.now c.requires.0 c.requires.1 in
    let room : length c.requires.0.fields ≤ length c.as_mut_slice-headers.result.now =
    omega (arith, few, c.as_mut_slice-headers.ensures.len, c.in_ok-spans.ensures.len) in
    let at : IsRequestAt c.args.head.now c.parse_request.new.headers c.in-Ok-Complete.found c.requires.0 =
    rw c.in-Ok-Complete.field-0-is at (c.in-Ok-Complete.ensures.found c.requires.0 [] c.requires.1 room) in
    let within : IsRequestWithin c.args.head.now c.parse_request.new.headers c.in-Ok-Complete.found =
    rw c.in-Ok-Complete.field-0-is at c.in-Ok-Complete.ensures.within in
    record {
      found = record {
        method_within = (within.method.0, omega (arith, within.method.1, within.section.len_fits));
        path_within = (within.path.0, omega (arith, within.path.1, within.section.len_fits));
        headers_within = within-more c.in-Ok-Complete.found.len (length c.args.head.now) _ within.section.len_fits within.section.headers_fit;
        head = c.requires.0;
        reads = c.requires.1;
        method = at.method;
        path = at.path;
        minor = at.version;
        fields = at.fields;
      };
    }

pub unreachable-requires : goal.unreachable-requires
unreachable-requires c =
    let few = few-fields c.args.head.now c.requires.0 c.requires.1 in
    let room : length c.requires.0.fields ≤ length c.as_mut_slice-headers.result.now =
    omega (arith, few, c.as_mut_slice-headers.ensures.len, c.in_ok-spans.ensures.len) in
    rw c.in-Ok-Partial.field-0-is at (c.in-Ok-Partial.ensures.found c.requires.0 [] c.requires.1 room)

pub unreachable-requires-in-Err : goal.unreachable-requires-in-Err
unreachable-requires-in-Err c =
    let few = few-fields c.args.head.now c.requires.0 c.requires.1 in
    let room : length c.requires.0.fields ≤ length c.as_mut_slice-headers.result.now =
    omega (arith, few, c.as_mut_slice-headers.ensures.len, c.in_ok-spans.ensures.len) in
    c.in-Err.ensures.found c.requires.0 [] c.requires.1 room
