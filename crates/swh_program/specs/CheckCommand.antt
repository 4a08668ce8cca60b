-- What `check` does.
use Rattle.std.specs.Prelude.{◌≡◌, ◌≢◌, ◌++◌, ◌∷◌, [], ℕ, List, codes, decimal}
use Rattle.swh_base.specs.declared.kind.Kind.{Kind}
use Rattle.swh_base.specs.declared.name.Name.{Name}
use Rattle.swh_model.specs.Archive.{Archive}
use Rattle.swh_check.specs.Bodies.{IsDamage}
use Rattle.swh_check.specs.Counts.{IsReport}
use Rattle.swh_check.specs.declared.report.Report.{Report}
use Rattle.swh_exit.specs.Seen.{Span}
use Rattle.swh_exit.specs.Damage.{damaged_body_line}
use Rattle.swh_program.specs.Reading.{Telling, DoesRead}
use Rattle.swh_exit.specs.declared.answer.Ending.TheVariants.{Done}

-- the counts of an archive as they are printed: names that are held, those of them that full visits reach, and visits
abbrev pub report_line : Report → List ℕ
report_line r =
    codes "objects " ++ (decimal r.objects ++ (codes " closed " ++ (decimal r.closed ++ (codes " visits " ++ (decimal r.visits ++ 10 ∷ [])))))

-- The text tells the counts of an archive.
pub record TellsCounts (a : Archive) (text : List ℕ) : Type 0 where
  pub report : Report
  pub counts : IsReport a report
  pub text_is : text ≡ report_line report

module _ (id_of : Kind → List ℕ → List ℕ) where
  -- The text tells the name of a held body that reads otherwise.
  pub record TellsBody (a : Archive) (text : List ℕ) : Type 0 where
    pub name : Name
    pub found : List ℕ
    pub damage : IsDamage id_of a.bodies name found
    pub text_is : text ≡ damaged_body_line name

-- What `check` has to tell of an archive: its counts, or a body that reads otherwise than its name says.
abbrev pub checking : (Kind → List ℕ → List ℕ) → Telling
checking id_of = record {
  tells = λ a text end. TellsCounts a text × (end ≡ Done);
  finds = λ a text. TellsBody id_of a text;
  breaks = λ a. ⊥;
}

-- What a run of `check` does.
pub record DoesCheck (dir : List ℕ) (s : Span) (status : ℕ) : Type 0 where
  pub reads : DoesRead (checking s.id_of) dir s status
  -- It wants nothing.
  pub not_wanting : status ≢ 1
