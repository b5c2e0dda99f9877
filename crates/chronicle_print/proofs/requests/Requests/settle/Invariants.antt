use Rattle.std.proofs.Common.{◌≡◌, drop}
use Rattle.cs_base.specs.declared.ids.ReqId.{ReqId}
use Rattle.chronicle_print.specs.Printing.{filed_number, filed_place, recent_number, recent_place, older_number, older_place}
use Rattle.chronicle_print.proofs.requests.Requests.settle.Given as goal

-- the requests before this number are in the maps, and come before the others
abbrev pub invariant-loop-index : goal.invariant-loop-index
invariant-loop-index l = record {
  asked : l.self.asked ≡ l.fn.self.asked;
  newest : l.self.newest ≡ l.fn.self.newest;
  recent : l.self.recent ≡ l.fn.self.recent;
  numbers : (id : ReqId) → recent_number (drop l.index l.fn.self.recent.items) id (filed_number l.self.numbers id) ≡ older_number l.fn.self id;
  places : (id : ReqId) → recent_place (drop l.index l.fn.self.recent.items) id (filed_place l.self.places id) ≡ older_place l.fn.self id;
}
