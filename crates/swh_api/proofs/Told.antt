-- Replies that tell an answer of the graph.
use Rattle.std.proofs.Common.{◌≡◌, inr, ℕ, Result, Ok, Err, IfOk, List, ap, ◌∙◌}
use Rattle.serde_json.specs.Data.{Data}
use Rattle.swh_base.specs.declared.kind.Kind.{Kind}
use Rattle.swh_base.specs.declared.memory.Memory.{Memory}
use Rattle.swh_base.specs.declared.name.Name.{Name}
use Rattle.swh_base.specs.declared.request.Reply.{Reply}
use Rattle.swh_model.specs.Archive.{Bodies}
use Rattle.swh_swhid.specs.declared.swhid.Swhid.{Swhid}
use Rattle.swh_swhid.specs.Qualifier.{IsSwhid}
use Rattle.swh_graph.specs.Answer.{GraphAnswer, Found, Missing, Nowhere, Refuses}
use Rattle.swh_graph.specs.Holding.{IsNotHeld}
use Rattle.swh_graph.specs.Resolve.{IsResolveAnswer}
use Rattle.swh_graph.specs.declared.fault.GraphFault.{GraphFault}
use Rattle.swh_graph.specs.declared.fault.GraphFault.TheVariants as fault
use Rattle.swh_replies.specs.Json.{resolved_data, tree_reply}
use Rattle.swh_replies.specs.Answers.{SpellsId}
use Rattle.swh_api.specs.Answer.{IsRead, TellsAnswer, IsIdReply, IsResolveReply}
use Rattle.swh_api.specs.Fault.{IsFaultReply}

-- the name of a kind, by its kind and its id
pub named : (kind : Kind) (name : Name) → name.kind ≡ kind → name ≡ record { kind = kind; id = name.id }
named kind name e = λ i. record { kind = e i; id = name.id }

pub read_refuses : {A : Type 0} (Holds : Bodies → Name → A → Type 0) (bodies : Bodies) (name : Name) (f : GraphFault) → IsNotHeld bodies name f → Refuses (IsRead Holds bodies name) f
read_refuses Holds bodies name (fault.NotHeld missing) h = h
read_refuses Holds bodies name (fault.NoPath component) h = absurd h
read_refuses Holds bodies name fault.Memory h = tt

-- a fault tells an answer
pub fault_tells : {A : Type 0} (Answers : GraphAnswer A → Type 0) (data_of : A → Data) (f : GraphFault) (reply : Reply) → Refuses Answers f → IsFaultReply f reply → TellsAnswer Answers data_of reply
fault_tells Answers data_of (fault.NotHeld name) reply refuses told = record { answer = Missing name; is_answer = refuses; told = told }
fault_tells Answers data_of (fault.NoPath component) reply refuses told = record { answer = Nowhere component; is_answer = refuses; told = told }
fault_tells Answers data_of fault.Memory reply refuses told = absurd told

pub found_tells : {A : Type 0} (Answers : GraphAnswer A → Type 0) (data_of : A → Data) (object : A) (tree : Data) (reply : Reply) → Answers (Found object) → tree ≡ data_of object → reply ≡ tree_reply 200 tree → TellsAnswer Answers data_of reply
found_tells Answers data_of object tree reply is same told = record { answer = Found object; is_answer = is; told = told ∙ ap (tree_reply 200) same }

-- ---- by an id

pub fault_by_id : {A : Type 0} (kind : Kind) (Answers : Name → GraphAnswer A → Type 0) (data_of : List ℕ → A → Data) (text id : List ℕ) (f : GraphFault) (r : Result Reply Memory) → SpellsId text id → Refuses (Answers (record { kind = kind; id = id })) f
    → IfOk r (IsFaultReply f) → IfOk r (IsIdReply kind Answers data_of text)
fault_by_id kind Answers data_of text id f (Err e) spells refuses told = tt
fault_by_id kind Answers data_of text id f (Ok reply) spells refuses told = inr (id, spells, fault_tells (Answers (record { kind = kind; id = id })) (data_of id) f reply refuses told)

pub found_by_id : {A : Type 0} (kind : Kind) (Answers : Name → GraphAnswer A → Type 0) (data_of : List ℕ → A → Data) (text id : List ℕ) (object : A) (tree : Data) (r : Result Reply Memory) → SpellsId text id → Answers (record { kind = kind; id = id }) (Found object) → tree ≡ data_of id object
    → IfOk r (λ reply. reply ≡ tree_reply 200 tree) → IfOk r (IsIdReply kind Answers data_of text)
found_by_id kind Answers data_of text id object tree (Err e) spells is same told = tt
found_by_id kind Answers data_of text id object tree (Ok reply) spells is same told = inr (id, spells, found_tells (Answers (record { kind = kind; id = id })) (data_of id) object tree reply is same told)

-- ---- by a SWHID

pub fault_by_swhid : (bodies : Bodies) (text : List ℕ) (swhid : Swhid) (f : GraphFault) (r : Result Reply Memory) → IsSwhid text swhid → Refuses (IsResolveAnswer bodies swhid) f → IfOk r (IsFaultReply f) → IfOk r (IsResolveReply bodies text)
fault_by_swhid bodies text swhid f (Err e) spells refuses told = tt
fault_by_swhid bodies text swhid f (Ok reply) spells refuses told = inr (swhid, spells, fault_tells (IsResolveAnswer bodies swhid) resolved_data f reply refuses told)

pub found_by_swhid : (bodies : Bodies) (text : List ℕ) (swhid : Swhid) (name : Name) (tree : Data) (r : Result Reply Memory) → IsSwhid text swhid → IsResolveAnswer bodies swhid (Found name) → tree ≡ resolved_data name → IfOk r (λ reply. reply ≡ tree_reply 200 tree)
    → IfOk r (IsResolveReply bodies text)
found_by_swhid bodies text swhid name tree (Err e) spells is same told = tt
found_by_swhid bodies text swhid name tree (Ok reply) spells is same told = inr (swhid, spells, found_tells (IsResolveAnswer bodies swhid) resolved_data name tree reply is same told)
