use Rattle.std.proofs.Common.{◌≤◌, ◌++◌, ℕ, length, sym, ◌∙◌, subst}
use Rattle.row_select.specs.declared.page.Page.{Page}
use Rattle.row_select.specs.Rows.{row_if, rows_with, IsPageOf}
use Rattle.row_select.proofs.PageLaws.{page_done, page_full, page_more, stops_there, passed_more, parts_of, all_passed}
use Rattle.row_select.proofs.page.page_of.Goals.{in-Some+in_ok-add+then-page, in_default}
use Rattle.row_select.proofs.page.page_of.Goals as goal

pub loop-row-preserved : goal.loop-row-preserved
loop-row-preserved c =
    let before = c.loop-row.invariant.passed in
    let rows = c.loop-row.page.rows.items in
    let now = c.loop-row.walk in
    let later = c.next_row.new.self in
    let one = row_if c.in-Some.row.now c.in-Some.changes.now in
    let more = page_more c.loop-row.page.limit (rows ++ one) c.add.new.self.rows.items c.add.new.self.more (c.in_ok-add.ensures.rows, c.in_ok-add.ensures.more) c.if-page.false in
    record {
      passed = passed_more before.0 c.args.walk.now now later c.in-Some.row.now c.in-Some.changes.now rows c.add.new.self.rows.items before.1 c.in-Some.ensures.some before.2 more.0;
      within = subst (λ (n : ℕ). length c.add.new.self.rows.items ≤ n) (sym c.in_ok-add.ensures.limit) more.1;
      limit = c.in_ok-add.ensures.limit ∙ c.loop-row.invariant.limit;
      more = c.if-page.false;
      stops = stops_there c.args.limit before.0 c.args.walk.now now later c.in-Some.row.now c.in-Some.changes.now rows before.1 c.in-Some.ensures.some before.2 (subst (λ (n : ℕ). length c.loop-row.page.rows.items ≤ n) c.loop-row.invariant.limit c.loop-row.invariant.within);
    }

pub returns-clause-page : goal.returns-clause-page
returns-clause-page c =
    let before = c.loop-row.invariant.passed in
    let all = rows_with c.args.walk.now in
    elim c.match-next_row.branch [
      | in-Some+in_ok-add+then-page w ↦
          let one = row_if w.in-Some.row.now w.in-Some.changes.now in
          let parts = parts_of before.0 c.args.walk.now c.loop-row.walk c.next_row.new.self w.in-Some.row.now w.in-Some.changes.now c.loop-row.page.rows.items before.1 w.in-Some.ensures.some before.2 in
          let full : IsPageOf c.loop-row.page.limit (rows_with c.args.walk.now) w.add.new.self.rows.items w.add.new.self.more =
          page_full c.loop-row.page.limit (c.loop-row.page.rows.items ++ one) (rows_with c.args.walk.now) (rows_with c.next_row.new.self) w.add.new.self.rows.items w.add.new.self.more (w.in_ok-add.ensures.rows, w.in_ok-add.ensures.more) w.if-page.true parts in
          subst (λ (p : Page). IsPageOf c.args.limit (rows_with c.args.walk.now) p.rows.items p.more) (sym w.page-is)
          (subst (λ (n : ℕ). IsPageOf n (rows_with c.args.walk.now) w.add.new.self.rows.items w.add.new.self.more) c.loop-row.invariant.limit full)
      | in_default w ↦
          let none = w.in_default.ensures.none in
          let done : IsPageOf c.loop-row.page.limit (rows_with c.args.walk.now) c.loop-row.page.rows.items c.loop-row.page.more =
          page_done c.loop-row.page.limit c.loop-row.page.rows.items (rows_with c.args.walk.now) c.loop-row.page.more c.loop-row.invariant.within c.loop-row.invariant.more
          (all_passed before.0 c.args.walk.now c.loop-row.walk c.loop-row.page.rows.items before.1 none.0 before.2) in
          subst (λ (p : Page). IsPageOf c.args.limit (rows_with c.args.walk.now) p.rows.items p.more) (sym w.page-is)
          (subst (λ (n : ℕ). IsPageOf n (rows_with c.args.walk.now) c.loop-row.page.rows.items c.loop-row.page.more) c.loop-row.invariant.limit done)
    ]
