use Rattle.std.proofs.Common.{refl}
use Rattle.shell.specs.Runs.{EndsOverFile}
use Rattle.shell.proofs.Alone.{over_file, unsaid}
use Rattle.shell.proofs.program.run_file.Goals as goal

pub returns-then-is_output : goal.returns-then-is_output
returns-then-is_output g c = record { ends = EndsOverFile.not_opened refl (unsaid _) refl refl refl }

pub returns : goal.returns
returns g c = record {
  ends = over_file _ _ _ _ _ _ _ _ _ _ c.opened_file-file.result c.opened_file-file.ensures.fresh
      c.run_over_pages-ended.ensures.ends c.run_over_pages-ended.ensures.not_opened c.run_over_pages-ended.ensures.nothing;
}
