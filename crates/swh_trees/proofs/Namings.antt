-- Which names are kept, as callers see it.
use Rattle.std.proofs.Common.{◌≡◌, ℕ, Bool, true, false, cond, List, [], ◌++◌, ◌==◌, Option, Some, None, refl, sym, ap, subst, ◌∙◌}
use Rattle.std.specs.Global.{Vec}
use Rattle.swh_entries.specs.Keys.{texts}
use Rattle.swh_folders.specs.declared.folders.Folders.{Folders}
use Rattle.swh_folders.specs.declared.opened.Opened.{Opened}
use Rattle.swh_folders.specs.declared.opened.Start.{Start}
use Rattle.swh_folders.specs.declared.opened.Start.TheVariants.{At, In}
use Rattle.swh_forest.specs.Kept.{AreAmong}
use Rattle.swh_folders.specs.Opened.{open_path}
use Rattle.swh_forest.proofs.Keeping.{among-self, among-none, among-on, among-left, among-right, among-both}
use Rattle.swh_trees.specs.Grove.{Grove, kept_names}
use Rattle.swh_trees.specs.Held.{grove, start_with, opened_of, opened_path}

path_one : (o : Opened) (n : ℕ) (b : Bool) → AreAmong (open_path (cond b (In o) (At (Some n)))) (opened_path (Some o))
path_one o n true = among-self (opened_path (Some o))
path_one o n false = among-none (opened_path (Some o))

start_path : (opened : Option Opened) (number : Option ℕ) (count : ℕ) → AreAmong (open_path (start_with opened number count)) (opened_path opened)
start_path None number count = among-none []
start_path (Some o) None count = among-none (opened_path (Some o))
start_path (Some o) (Some n) count = path_one o n (n == count)

pub path-opened : (s : Start) → opened_path (opened_of s) ≡ open_path s
path-opened (At root) = refl
path-opened (In o) = refl

-- of the folder in which changes go on
pub start-path : (opened taken : Option Opened) (number : Option ℕ) (count : ℕ) (s : Start) → taken ≡ opened → s ≡ start_with taken number count → AreAmong (open_path s) (opened_path opened)
start-path opened taken number count s took begins =
    subst (λ (w : Start). AreAmong (open_path w) (opened_path opened)) (sym (begins ∙ ap (λ (o : Option Opened). start_with o number count) took)) (start_path opened number count)

-- names that are kept after a change, where none was given
pub names-kept : (v : Grove) (a b : Folders) (o : Option Opened) (ids path : List (List ℕ)) → grove a o ids ≡ v → AreAmong path (opened_path o) → AreAmong (texts b.names.items) (texts a.names.items ++ path) → AreAmong (texts b.names.items) (kept_names v)
names-kept v a b o ids path seen own names =
    let old = texts a.names.items in
    let all = old ++ opened_path o in
    subst (λ (w : Grove). AreAmong (texts b.names.items) (kept_names w)) seen (among-on (texts b.names.items) (old ++ path) all names
    (among-both old path all (among-left old (opened_path o)) (among-on path (opened_path o) all own (among-right old (opened_path o)))))

-- after a change that was given these names
pub names-changed : (v : Grove) (a b : Folders) (o o' : Option Opened) (ids path given : List (List ℕ)) → grove a o ids ≡ v → AreAmong path (opened_path o) → AreAmong (texts b.names.items) (texts a.names.items ++ (path ++ given)) → AreAmong (opened_path o') (path ++ given) → AreAmong (texts b.names.items ++ opened_path o') (kept_names v ++ given)
names-changed v a b o o' ids path given seen own names left =
    let old = texts a.names.items in
    let all = (old ++ opened_path o) ++ given in
    let here : AreAmong (old ++ opened_path o) all = among-left (old ++ opened_path o) given in
    let paths : AreAmong (path ++ given) all = among-both path given all
    (among-on path (opened_path o) all own (among-on (opened_path o) (old ++ opened_path o) all (among-right old (opened_path o)) here))
    (among-right (old ++ opened_path o) given) in
    let first : AreAmong (texts b.names.items) all = among-on (texts b.names.items) (old ++ (path ++ given)) all names
    (among-both old (path ++ given) all (among-on old (old ++ opened_path o) all (among-left old (opened_path o)) here) paths) in
    subst (λ (w : Grove). AreAmong (texts b.names.items ++ opened_path o') (kept_names w ++ given)) seen
    (among-both (texts b.names.items) (opened_path o') all first (among-on (opened_path o') (path ++ given) all left paths))

-- after the open folder was closed
pub names-closed : (v : Grove) (a b : Folders) (o : Option Opened) (ids path : List (List ℕ)) → grove a o ids ≡ v → AreAmong path (opened_path o) → AreAmong (texts b.names.items) (texts a.names.items ++ path) → AreAmong (texts b.names.items ++ []) (kept_names v)
names-closed v a b o ids path seen own names = among-both (texts b.names.items) [] (kept_names v) (names-kept v a b o ids path seen own names) (among-none (kept_names v))

-- the same names, and no open folder any more
pub names-dropped : (v w : Grove) (a b : Folders) (o : Option Opened) (ids : List (List ℕ)) → grove a o ids ≡ w → b.names.items ≡ a.names.items → AreAmong (kept_names w) (kept_names v) → AreAmong (texts b.names.items ++ []) (kept_names v)
names-dropped v w a b o ids seen same h =
    let all = kept_names v in
    let old = texts a.names.items in
    let before : AreAmong (old ++ opened_path o) all = subst (λ (x : Grove). AreAmong (kept_names x) all) (sym seen) h in
    subst (λ (n : List (Vec ℕ)). AreAmong (texts n ++ []) all) (sym same)
    (among-both old [] all (among-on old (old ++ opened_path o) all (among-left old (opened_path o)) before) (among-none all))
