-- How the check of a list ends.
use Rattle.std.proofs.Common.{◌≡◌, ℕ, List, [], length, Option, refl, ap, sym, subst, ◌∙◌}
use Rattle.std.specs.Prelude.{is_err}
use Rattle.std.specs.Io.KnownBytes.{Appends}
use Rattle.pf_tree_tables.specs.declared.changes.Txn.{Txn}
use Rattle.pf_check.specs.declared.judging.Verdict.{Verdict}
use Rattle.pf_check.specs.Raw.{empty_tables, made_by}
use Rattle.pf_check.proofs.Alike.{alike}
use Rattle.pf_script.specs.declared.command.LineFault.{LineFault}
use Rattle.pf_run_lines.specs.declared.scan.Stop.{Stop}
use Rattle.pf_run_lines.specs.declared.scan.Stop.TheVariants as stops
use Rattle.pf_run_lines.specs.declared.status.Status.{Status}
use Rattle.pf_run_lines.specs.declared.status.Status.TheVariants as statuses
use Rattle.pf_run_lines.specs.Checking.{HasChecked, IsChecked, IsVerdictLine, LineTellsOf, verdict_text}
use Rattle.pf_run_lines.specs.Ends.{AppendsFront}
use Rattle.pf_run_lines.specs.Lists.{list_of, list_rules}
use Rattle.pf_run_lines.specs.Refusing.{EndsAtStop, LineRefuses, fault_text}
use Rattle.pf_run_lines.specs.Runs.{IsRefused, IsText, IsUndecided, StopSays}
use Rattle.pf_run_lines.proofs.TextPieces.{a_text, is_text}
use Rattle.pf_run_lines.proofs.Taken.{appends_none}

-- two lines of right verdicts on the same tables are the same
one_line : (txns : List Txn) (one other : List ℕ) → IsVerdictLine txns one → IsVerdictLine txns other → one ≡ other
one_line txns one other first second =
    first.line_is ∙ ap (λ (v : Verdict). verdict_text v (length txns)) (alike (made_by empty_tables txns) first.verdict second.verdict first.right second.right) ∙ sym second.line_is

-- so one line is told of an accepted list
pub plain_check : (bytes : List ℕ) (taken now : Option (List ℕ)) (line : List ℕ) → IsChecked bytes taken now → LineTellsOf (list_of bytes) line → Appends taken now line
plain_check bytes taken now line c tells = subst (Appends taken now) (one_line c.txns c.line line c.tells (subst (λ j. LineTellsOf j line) c.accepted tells)) c.written

module _ (left rest taken now : Option (List ℕ)) (failed full : Type 0) where
  abbrev Checked : Status → Type 0
  Checked status = HasChecked status left rest failed taken now full

  -- memory ran out before anything was told
  pub none_told : now ≡ taken → Checked statuses.NoMemory
  none_told same = record { list = a_text left; source = is_text left; ends = subst (λ t. Appends taken t []) (sym same) (appends_none taken) }

  unread : failed × IsUndecided list_rules tt left rest → now ≡ taken → Checked statuses.ReadFault
  unread cause same = record { list = a_text left; source = is_text left; ends = (cause.0, cause.1, subst (λ t. Appends taken t []) (sym same) (appends_none taken)) }

  refused : (status : Status) (line : ℕ) (fault : LineFault) → IsRefused list_rules tt left line fault → LineRefuses status (fault_text line fault) taken now full → Checked status
  refused statuses.Script line fault r w = record {
    list = r.text;
    source = r.source;
    ends = record { refused = ap is_err r.refused; line = fault_text line fault; tells = subst (λ j. LineTellsOf j (fault_text line fault)) (sym r.refused) refl; written = w };
  }
  refused statuses.NoMemory line fault r w = record { list = r.text; source = r.source; ends = w }
  refused statuses.WriteFault line fault r w = record {
    list = r.text;
    source = r.source;
    ends = (w.0, record { line = fault_text line fault; tells = subst (λ j. LineTellsOf j (fault_text line fault)) (sym r.refused) refl; written = w.1 });
  }
  refused statuses.Usage line fault r w = absurd w
  refused statuses.Ok line fault r w = absurd w
  refused statuses.ReadFault line fault r w = absurd w

  -- the lines were not read whole, or one of them is refused
  pub stopped : (status : Status) (stop : Stop) → StopSays stop (IsRefused list_rules tt left) (failed × IsUndecided list_rules tt left rest) → EndsAtStop status stop taken now full → Checked status
  stopped status stops.NoMemory says ends = subst Checked (sym ends.0) (none_told ends.1)
  stopped status stops.Failed says ends = subst Checked (sym ends.0) (unread says ends.1)
  stopped status (stops.Refused line fault) says ends = refused status line fault says ends

  -- an accepted list, and the line of a verdict
  pub cut : (txns : List Txn) (line : List ℕ) → IsText list_rules tt left rest txns → IsVerdictLine txns line → full → AppendsFront taken now line → Checked statuses.WriteFault
  cut txns line read tells rose front = record {
    list = read.text;
    source = read.source;
    ends = (rose, record { line = line; tells = subst (λ j. LineTellsOf j line) (sym read.accepted) tells; written = front });
  }

  pub told : (txns : List Txn) (line : List ℕ) → IsText list_rules tt left rest txns → IsVerdictLine txns line → Appends taken now line → Checked statuses.Ok
  told txns line read tells put = record {
    list = read.text;
    source = read.source;
    ends = (read.whole, record { txns = txns; accepted = read.accepted; line = line; tells = tells; written = put });
  }
