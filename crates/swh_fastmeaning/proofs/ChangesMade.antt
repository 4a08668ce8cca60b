-- The changes of a commit, made one after another.
use Rattle.std.proofs.Common.{◌≡◌, ◌≢◌, ℕ, zero, suc, ◌+◌, ◌<◌, ◌≤◌, List, [], ◌∷◌, ◌++◌, length, drop, get_or, Option, Some, None, Result, Ok, Err, IfOk, IfErr, IfSome, IfNone, refl, sym, ap, ◌∙◌, subst, arith, add-one}
use Rattle.std.proofs.lemmas.List.{append-nil, drop_all}
use Rattle.std.proofs.Math.Seq.{drop-cons}
use Rattle.std.specs.List.{AllByRecursion}
use Rattle.swh_base.specs.declared.kind.Kind.{Kind}
use Rattle.swh_base.specs.declared.kind.Kind.TheVariants.{Content}
use Rattle.swh_base.specs.declared.entry.Entry.{Entry}
use Rattle.swh_model.specs.Meaning.{Made, content}
use Rattle.swh_trees.specs.declared.tree.Tree.{Tree}
use Rattle.swh_trees.specs.Grove.{Grove, StandsFor, Keeps, map_of}
use Rattle.swh_fastlex.specs.Path.{components}
use Rattle.swh_entries.specs.declared.entry.Leaf.{Leaf}
use Rattle.swh_forest.specs.PathMap.{PathMap, held, set, delete, copy, rename}
use Rattle.swh_fastgrammar.specs.declared.command.At.{At}
use Rattle.swh_fastgrammar.specs.declared.command.Change.{Change}
use Rattle.swh_fastgrammar.specs.declared.command.Change.TheVariants.{Set, Delete, Copy, Move, Clear}
use Rattle.swh_fastgrammar.specs.declared.command.Dataref.{Dataref}
use Rattle.swh_fastgrammar.specs.declared.command.Dataref.TheVariants.{Inline}
use Rattle.swh_fastgrammar.specs.declared.fault.StreamWhy.TheVariants.{Place as NoPlace}
use Rattle.swh_fastmeaning.specs.Aims.{AllAims, Missing}
use Rattle.swh_fastmeaning.specs.Commands.{Changed, turned, put, if_there, set_to, changed, all_changed, ◌>>=◌}
use Rattle.swh_fastmeaning.specs.Changes.{HoldsContents, IsChangedTo, IsSetTo, changed_of, ExplainsChange}
use Rattle.swh_fastmeaning.specs.declared.feed_fault.FeedFault.{FeedFault}
use Rattle.swh_fastmeaning.specs.declared.feed_fault.FeedFault.TheVariants.{BadStream, Limit, Memory}

abbrev leaf_of : ℕ → List ℕ → Leaf
leaf_of mode id = record { mode = mode; id = id }

abbrev set_ok : List ℕ → List ℕ → Result (List ℕ × List Made) Missing
set_ok id bytes = Ok (id, content bytes ∷ [])

pub inline_set : (id_of : Kind → List ℕ → List ℕ) (aims : AllAims Tree) (at : ℕ) (what : Dataref) (bytes b i : List ℕ) → what ≡ Inline bytes → b ≡ bytes → i ≡ id_of Content b → set_to id_of aims at what ≡ Ok (i, content b ∷ [])
inline_set id_of aims at what bytes b i w e f = ap (set_to id_of aims at) w ∙ sym (ap (λ (k : List ℕ). set_ok k b) f ∙ ap (λ (d : List ℕ). set_ok (id_of Content d) d) e)

-- a source that holds something, and one that does not
pub there : (source : List ℕ) (c : Changed) (at : ℕ) (tree : PathMap) → held (components source) c.tree ≢ [] → if_there source c at tree ≡ Ok (turned c tree [])
there source c at tree some = by_held (held (components source) c.tree) some
  where
    by_held : (h : PathMap) → h ≢ [] → elim h as (λ _. Result Changed Missing) [ [] ↦ Err (record { at = at; why = NoPlace }) | _ ∷ _ ↦ Ok (turned c tree []) ] ≡ Ok (turned c tree [])
    by_held [] n = absurd (n refl)
    by_held (e ∷ h) n = refl

pub not_there : (source : List ℕ) (c : Changed) (at : ℕ) (tree : PathMap) → held (components source) c.tree ≡ [] → if_there source c at tree ≡ Err (record { at = at; why = NoPlace })
not_there source c at tree none = by_held (held (components source) c.tree) none
  where
    by_held : (h : PathMap) → h ≡ [] → elim h as (λ _. Result Changed Missing) [ [] ↦ Err (record { at = at; why = NoPlace }) | _ ∷ _ ↦ Ok (turned c tree []) ] ≡ Err (record { at = at; why = NoPlace })
    by_held [] n = refl
    by_held (e ∷ h) n = absurd (cc)

pub none_more : (ms : List Made) (objects : List Entry) (over : Option ℕ) → HoldsContents ms objects over → HoldsContents (ms ++ []) objects over
none_more ms objects over h = subst (λ (t : List Made). HoldsContents t objects over) (sym (append-nil ms)) h

pub keeps_self : (g : Grove) → Keeps g g
keeps_self g = record { made = refl; maps = λ n l. refl }

pub if_ok : {X E : Type 0} (P Q : X → Type 0) (r : Result X E) → IfOk r P → ((x : X) → P x → Q x) → IfOk r Q
if_ok P Q (Ok x) h f = f x h
if_ok P Q (Err e) h f = tt

pub if_err : {X E : Type 0} (P Q : E → Type 0) (r : Result X E) → IfErr r P → ((e : E) → P e → Q e) → IfErr r Q
if_err P Q (Ok x) h f = tt
if_err P Q (Err e) h f = f e h

pub at_some : {X : Type 0} (P : X → Type 0) (o : Option X) (x : X) → IfSome o P → o ≡ Some x → P x
at_some {X} P o x h e =
    let Q : Option X → Type 0 = λ t. IfSome t P in
    subst Q e h

pub at_none : {X : Type 0} (P : Type 0) (o : Option X) → IfNone o P → o ≡ None → P
at_none {X} P o h e =
    let Q : Option X → Type 0 = λ t. IfNone t P in
    subst Q e h

-- what is missing first
pub bind_err : {X Y : Type 0} (r : Result X Missing) (f : X → Result Y Missing) (fault : FeedFault) → ExplainsChange r fault → ExplainsChange (r >>= f) fault
bind_err {X} r f (BadStream at why) e = ap (λ (t : Result X Missing). t >>= f) e
bind_err r f (Limit which number) e = e
bind_err r f Memory e = tt

module _ (id_of : Kind → List ℕ → List ℕ) (aims : AllAims Tree) (at : ℕ) (it : Change) (tree : PathMap) (ms : List Made) where
  abbrev from : Changed
  from = changed_of tree ms

  abbrev step : Change → Result Changed Missing
  step i = changed id_of aims at i from

  pub set_err : (mode : ℕ) (what : Dataref) (path : List ℕ) (fault : FeedFault) → it ≡ Set mode what path → ExplainsChange (set_to id_of aims at what) fault → ExplainsChange (step it) fault
  set_err mode what path fault w h =
      subst (λ (i : Change). ExplainsChange (step i) fault) (sym w) (bind_err (set_to id_of aims at what) (λ s. Ok (put from path mode s.0 s.1)) fault h)

  pub set_done : (mode : ℕ) (what : Dataref) (path text id : List ℕ) (new : Grove) (t : Tree) (objects : List Entry) (over : Option ℕ) → it ≡ Set mode what path → text ≡ path → IsSetTo (set_to id_of aims at what) id ms objects over
      → StandsFor new t (set (components text) (leaf_of mode id) tree) → IsChangedTo (step it) new t objects over
  set_done mode what path text id new t objects over w e s h = record {
    changed = put from path mode id s.more;
    is = ap step w ∙ ap (λ (r : Result (List ℕ × List Made) Missing). r >>= λ s. Ok (put from path mode s.0 s.1)) s.is;
    stands = subst (λ (p : List ℕ). StandsFor new t (set (components p) (leaf_of mode id) tree)) e h;
    holds = s.holds;
  }

  pub delete_done : (path text : List ℕ) (new : Grove) (t : Tree) (objects : List Entry) (over : Option ℕ) → it ≡ Delete path → text ≡ path → StandsFor new t (delete (components text) tree) → HoldsContents ms objects over → IsChangedTo (step it) new t objects over
  delete_done path text new t objects over w e h c = record {
    changed = turned from (delete (components path) tree) [];
    is = ap step w;
    stands = subst (λ (p : List ℕ). StandsFor new t (delete (components p) tree)) e h;
    holds = none_more ms objects over c;
  }

  pub clear_done : (new : Grove) (t : Tree) (objects : List Entry) (over : Option ℕ) → it ≡ Clear → StandsFor new t [] → HoldsContents ms objects over → IsChangedTo (step it) new t objects over
  clear_done new t objects over w h c = record { changed = turned from [] []; is = ap step w; stands = h; holds = none_more ms objects over c }

  pub copy_is : (source path text target : List ℕ) → it ≡ Copy source path → text ≡ source → target ≡ path → step it ≡ if_there text from at (copy (components text) (components target) tree)
  copy_is source path text target w e f =
      ap step w
      ∙ sym (ap (λ (s : List ℕ). if_there s from at (copy (components s) (components target) tree)) e ∙ ap (λ (p : List ℕ). if_there source from at (copy (components source) (components p) tree)) f)

  pub move_is : (source path text target : List ℕ) → it ≡ Move source path → text ≡ source → target ≡ path → step it ≡ if_there text from at (rename (components text) (components target) tree)
  move_is source path text target w e f =
      ap step w
      ∙ sym (ap (λ (s : List ℕ). if_there s from at (rename (components s) (components target) tree)) e ∙ ap (λ (p : List ℕ). if_there source from at (rename (components source) (components p) tree)) f)

  pub source_done : (text : List ℕ) (there_then : PathMap) (found : Option Tree) (r : Result Tree FeedFault) (new : Grove) (objects : List Entry) (over : Option ℕ) → step it ≡ if_there text from at there_then → IfSome found (λ t. held (components text) tree ≢ [])
      → IfSome found (λ t. StandsFor new t there_then) → IfOk r (λ t. found ≡ Some t) → HoldsContents ms objects over → IfOk r (λ t. IsChangedTo (step it) new t objects over)
  source_done text m found r new objects over x some stands ok c =
      let P : Tree → Type 0 = λ t. found ≡ Some t in
      let Q : Tree → Type 0 = λ t. IsChangedTo (step it) new t objects over in
      let Held : Tree → Type 0 = λ t. held (components text) tree ≢ [] in
      let Stands : Tree → Type 0 = λ t. StandsFor new t m in
      if_ok P Q r ok (λ t e. record { changed = turned from m []; is = x ∙ there text from at m (at_some Held found t some e); stands = at_some Stands found t stands e; holds = none_more ms objects over c })

  pub source_err : (text : List ℕ) (there_then : PathMap) (found : Option Tree) (r : Result Tree FeedFault) → step it ≡ if_there text from at there_then → IfNone found (held (components text) tree ≡ []) → IfErr r (λ fault. (found ≡ None) × (fault ≡ BadStream at NoPlace)) → IfErr r (ExplainsChange (step it))
  source_err text m found r x none err =
      let P : FeedFault → Type 0 = λ fault. (found ≡ None) × (fault ≡ BadStream at NoPlace) in
      let Q : FeedFault → Type 0 = λ fault. ExplainsChange (step it) fault in
      if_err P Q r err (λ fault e. subst Q (sym e.1) (x ∙ not_there text from at m (at_none (held (components text) tree ≡ []) found none e.0)))

pub keeps_on : (a b c : Grove) → Keeps a b → Keeps b c → Keeps a c
keeps_on a b c h k = record { made = k.made ∙ h.made; maps = λ n l. k.maps n (subst (λ (m : ℕ). n < m) (sym h.made) l) ∙ h.maps n l }

all_at : {X : Type 0} (P : X → Type 0) (xs : List X) (i : ℕ) (d : X) → AllByRecursion P xs → i < length xs → P (get_or xs i d)
all_at P [] i d h l = absurd (omega arith)
all_at P (x ∷ xs) zero d h l = h.0
all_at P (x ∷ xs) (suc i) d h l = all_at P xs i d h.1 (omega arith)

pub read_at : {X : Type 0} (P : X → Type 0) (xs : List X) (i : ℕ) (x : X) → x ≡ get_or xs i x → AllByRecursion P xs → i < length xs → P x
read_at P xs i x e h l = subst P (sym e) (all_at P xs i x h l)

-- one change of several
module _ (id_of : Kind → List ℕ → List ℕ) (aims : AllAims Tree) (changes : List (At Change)) (all : Result Changed Missing) (i : ℕ) (a : At Change) (c : Changed) (trees : Grove) (here : Tree) where
  abbrev one : Result Changed Missing
  one = changed id_of aims a.at a.it (changed_of (map_of trees here) c.contents)

  abbrev rest : Changed → Result Changed Missing
  rest e = all_changed id_of aims (drop (i + 1) changes) e

  leads_on : a ≡ get_or changes i a → all ≡ all_changed id_of aims (drop i changes) c → StandsFor trees here c.tree → i < length changes → all ≡ one >>= rest
  leads_on read h s l =
      h ∙ ap (λ (t : List (At Change)). all_changed id_of aims t c) (drop-cons changes i a l ∙ ap (λ (k : ℕ). get_or changes i a ∷ drop k changes) (sym (add-one i)))
      ∙ ap (λ (b : At Change). changed id_of aims b.at b.it c >>= rest) (sym read)
      ∙ ap (λ (m : PathMap). changed id_of aims a.at a.it (changed_of m c.contents) >>= rest) (sym s.map)

  pub one_err : (fault : FeedFault) → a ≡ get_or changes i a → all ≡ all_changed id_of aims (drop i changes) c → StandsFor trees here c.tree → i < length changes → ExplainsChange one fault → ExplainsChange all fault
  one_err fault read h s l e = subst (λ (r : Result Changed Missing). ExplainsChange r fault) (sym (leads_on read h s l)) (bind_err one rest fault e)

  pub one_more : (e : Changed) → a ≡ get_or changes i a → all ≡ all_changed id_of aims (drop i changes) c → StandsFor trees here c.tree → i < length changes → one ≡ Ok e → all ≡ all_changed id_of aims (drop (i + 1) changes) e
  one_more e read h s l k = leads_on read h s l ∙ ap (λ (r : Result Changed Missing). r >>= rest) k

pub none_left : (id_of : Kind → List ℕ → List ℕ) (aims : AllAims Tree) (changes : List (At Change)) (all : Result Changed Missing) (i : ℕ) (c : Changed) → all ≡ all_changed id_of aims (drop i changes) c → length changes ≤ i → all ≡ Ok c
none_left id_of aims changes all i c h l = h ∙ ap (λ (t : List (At Change)). all_changed id_of aims t c) (drop_all i changes l)
