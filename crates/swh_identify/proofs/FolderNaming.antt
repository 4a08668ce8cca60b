-- How `identify dir` ends, and where nothing stands against it.
use Rattle.std.proofs.Common.{◌≡◌, ◌≢◌, ◌⊎◌, inl, inr, ℕ, ◌<◌, ◌≤◌, Option, Some, None, List, [], refl, ap, ◌∙◌, subst, arith}
use Rattle.std.proofs.lemmas.List.{append-nil}
use Rattle.swh_base.specs.declared.kind.Kind.{Kind}
use Rattle.swh_outside.specs.Folder.{Tree}
use Rattle.swh_dirload.specs.Root.{HasRoot}
use Rattle.swh_dirload.proofs.OneFolder.{one_root, root_unbroken}
use Rattle.swh_exit.specs.Answers.{TellsDisk, status_of}
use Rattle.swh_exit.specs.Run.{IsExactly}
use Rattle.swh_identify.specs.IdentifyFolderCommand.{directory_line, HasNoDirectory, TellsFolder, FolderEnds, IsFolderAnswer}
use Rattle.swh_exit.specs.declared.answer.Ending.{Ending}
use Rattle.swh_exit.specs.declared.answer.Ending.TheVariants as ending
use Rattle.swh_exit.specs.declared.answer.Answer.{Answer}
use Rattle.swh_exit.specs.declared.answer.Answer.TheVariants.{Told, OutsideDisk, OutsideFolder, Memory}
use Rattle.swh_exit.proofs.Statuses.{Tells, stopped, told_status}

module _ (id_of : Kind → List ℕ → List ℕ) where
  -- it is never refused for words, a job or an archive
  pub folder_statuses : (answer : Answer) → IsFolderAnswer id_of answer → (status_of answer < 2) ⊎ (4 ≤ status_of answer)
  folder_statuses (Told text end) is = told_status end
  folder_statuses OutsideFolder is = inr (omega arith)
  folder_statuses Memory is = inr (omega arith)
  folder_statuses _ is = absurd is

  -- it names no disk
  pub folder_disk : (answer : Answer) → IsFolderAnswer id_of answer → TellsDisk answer → ⊥
  folder_disk (Told text ending.Done) is tells = let e : ending.Done ≡ ending.OutsideDisk = tells in cc
  folder_disk (Told text ending.Wanting) is tells = let e : ending.Wanting ≡ ending.OutsideDisk = tells in cc
  folder_disk (Told text ending.OutsideDisk) is tells = is
  folder_disk (Told text ending.Memory) is tells = is
  folder_disk OutsideFolder is tells = let e : OutsideFolder ≡ OutsideDisk = tells in cc
  folder_disk Memory is tells = let e : Memory ≡ OutsideDisk = tells in cc
  folder_disk _ is tells = is

  told_exactly : (found : Option Tree) (text : List ℕ) (end : Ending) → TellsFolder id_of found end text → IsExactly 1 (HasNoDirectory id_of found) (status_of (Told text end))
  told_exactly None text ending.Done tells = absurd tells
  told_exactly (Some tree) text ending.Done tells = record {
    only = λ e. absurd (omega (arith, e));
    there = λ none. absurd (root_unbroken id_of tree [] tells.root none.0 tells.is none.1);
  }
  told_exactly None text ending.Wanting tells = record { only = λ e. tt; there = λ none. inl refl }
  told_exactly (Some tree) text ending.Wanting tells = record { only = λ e. (tells.fault, tells.breaks); there = λ none. inl refl }
  told_exactly found text ending.OutsideDisk tells = absurd tells
  told_exactly found text ending.Memory tells = absurd tells

  -- 1 exactly where no folder stands at the path, or it breaks
  pub folder_exactly : (found : Option Tree) (answer : Answer) → FolderEnds id_of found answer → IsExactly 1 (HasNoDirectory id_of found) (status_of answer)
  folder_exactly found (Told text end) ends = told_exactly found text end ends
  folder_exactly found OutsideFolder ends = stopped 1 4 (HasNoDirectory id_of found) (λ e. omega (arith, e)) (inr (inl refl))
  folder_exactly found Memory ends = stopped 1 5 (HasNoDirectory id_of found) (λ e. omega (arith, e)) (inr (inr refl))
  folder_exactly found _ ends = absurd ends

  -- a folder that does not break is named, or memory runs out, where the desk did not fail
  module _ (tree : Tree) (root : List ℕ) (is : HasRoot id_of tree [] root) where
    told_root : (text : List ℕ) (end : Ending) → TellsFolder id_of (Some tree) end text → Tells (directory_line root) 0 (Told text end)
    told_root text ending.Done tells = inr (refl, append-nil text ∙ tells.text_is ∙ ap directory_line (one_root id_of tree [] tells.root root tells.is is))
    told_root text ending.Wanting tells = absurd (root_unbroken id_of tree [] root tells.fault is tells.breaks)
    told_root text ending.OutsideDisk tells = absurd tells
    told_root text ending.Memory tells = absurd tells

    tree_named : (answer : Answer) → answer ≢ OutsideFolder → FolderEnds id_of (Some tree) answer → Tells (directory_line root) 0 answer
    tree_named (Told text end) no_folder ends = told_root text end ends
    tree_named OutsideFolder no_folder ends = absurd (no_folder refl)
    tree_named Memory no_folder ends = inl refl
    tree_named _ no_folder ends = absurd ends

    pub folder_named : (found : Option Tree) (answer : Answer) → found ≡ Some tree → answer ≢ OutsideFolder → FolderEnds id_of found answer → Tells (directory_line root) 0 answer
    folder_named found answer there no_folder ends = tree_named answer no_folder (subst (λ (f : Option Tree). FolderEnds id_of f answer) there ends)
