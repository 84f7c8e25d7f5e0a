-- Eight words set one after the other are the report. Assumes nothing.
use mathlib.Core.Path.{refl}
use Rattle.reports.proofs.Reports.{filled_reports}
use Rattle.reports.proofs.tell.Goals as goal

pub returns : goal.returns
returns c =
    let args = c.args in
    record {
      numbered = refl;
      written = rw (c.put-8.ensures, c.put-7.ensures, c.put-6.ensures, c.put-5.ensures, c.put-4.ensures, c.put-3.ensures, c.put-2.ensures, c.put.ensures)
          (filled_reports args.said args.report.now);
    }
