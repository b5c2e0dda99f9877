-- What a contract sees of a link.
use Rattle.std.specs.Prelude.{◌≡◌, ℕ, []}
use Rattle.node_links.specs.Ends.{put_by, known_taken, taken_by, known_to, IsLink}
use Rattle.node_links.specs.declared.link.Link.{Link}

module _ {M : Type 0} where
  -- the sending and the receiving node
  abbrev pub ends_of : Link M → ℕ × ℕ
  ends_of link = (link.from, link.to)

  -- nothing went through it yet
  abbrev pub IsFresh : Link M → Type 0
  IsFresh link =
      IsLink link.sender link.receiver
      × (put_by link.sender ≡ []) × (known_taken link.sender ≡ 0) × (taken_by link.receiver ≡ []) × (known_to link.receiver ≡ [])
