-- The limits that several crates count against. Each is the constant that code names.
use Rattle.std.specs.Prelude.{ℕ}
use Rattle.swh_base.specs.declared.limits.TheConstants.{BODY_LIMIT, LINE_LIMIT, PATH_LIMIT, REF_LIMIT, TAG_LIMIT, URL_LIMIT, OBJECTS_LIMIT, BYTES_LIMIT, RUN_LIMIT, FILE_LIMIT}

-- the bytes of a body: 67,108,864
abbrev pub body_limit : ℕ
body_limit = BODY_LIMIT

-- a line of a stream, a listing or a manifest, with its LF: 1,048,576
abbrev pub line_limit : ℕ
line_limit = LINE_LIMIT

-- the bytes of a path: 65,535
abbrev pub path_limit : ℕ
path_limit = PATH_LIMIT

-- the bytes of a ref: 1,024
abbrev pub ref_limit : ℕ
ref_limit = REF_LIMIT

-- the bytes of a tag's name, so that `refs/tags/` and it are a ref: 1,014
abbrev pub tag_limit : ℕ
tag_limit = TAG_LIMIT

-- the bytes of a URL: 2,048
abbrev pub url_limit : ℕ
url_limit = URL_LIMIT

-- the objects of a batch: 4,096
abbrev pub objects_limit : ℕ
objects_limit = OBJECTS_LIMIT

-- the bytes of a batch's bodies, but for the last: 8,388,608
abbrev pub bytes_limit : ℕ
bytes_limit = BYTES_LIMIT

-- no batch within its limits has a longer run: 75,616,256
abbrev pub run_limit : ℕ
run_limit = RUN_LIMIT

-- the bytes of each of an archive's two files: 2 ^ 62
abbrev pub file_limit : ℕ
file_limit = FILE_LIMIT
