use Rattle.row_select.proofs.SelectLaws.{page_shown}
use Rattle.row_select.proofs.select.shown.Goals as goal

pub returns : goal.returns
returns c = page_shown c.args.query.now c.args.content.now c.rows-walk.result c.in_ok-page.page.0 c.in_ok-page.page.1 c.rows-walk.ensures.apart c.rows-walk.ensures.rows c.in_ok-page.ensures.page
