-- The promises leave one answer, and one answer has one number and one report. Assumes nothing.
use mathlib.Core.Path.{sym, ◌∙◌}
use Rattle.capi.proofs.Once.{once, flatten_number, flatten_report, refused-by}
use Rattle.capi.proofs.theorems.determinate.Goals as goal

pub returns : goal.returns
returns c =
    let is = c.determinate.ensures in
    record {
      check_chart = λ chart before m n x y p q. once p q (is.check_chart chart p.answer q.answer p.promised q.promised);
      start_chart = λ chart state before m n s t x y p q.
          let e = is.start_chart chart state p.answer q.answer s t p.promised q.promised in
          let same = once p q e.0 in (same.0, same.1, e.1);
      run_chart = λ chart state event outputs before m n s t v w x y p q.
          let e = is.run_chart chart state event outputs p.answer q.answer s t v w p.promised q.promised in
          let same = once p q e.0 in (same.0, same.1, e.1, e.2);
      flatten = λ chart room before m n s t x y p q.
          let e = is.flatten chart room p.answer q.answer s t p.promised q.promised in (
            flatten_number p q e.0,
            flatten_report p q e.0,
            λ h.
                refused-by p.answer p.numbered h (λ r i.
                let o = e.1 r i in ((once p q (i ∙ sym o.0)).1, o.1)),
          );
      check_flat = λ flat before m n x y p q. once p q (is.check_flat flat p.answer q.answer p.promised q.promised);
      start_flat = λ flat state before m n s t x y p q.
          let e = is.start_flat flat state p.answer q.answer s t p.promised q.promised in
          let same = once p q e.0 in (same.0, same.1, e.1);
      run_flat = λ flat state event outputs before m n s t v w x y p q.
          let e = is.run_flat flat state event outputs p.answer q.answer s t v w p.promised q.promised in
          let same = once p q e.0 in (same.0, same.1, e.1, e.2);
    }
