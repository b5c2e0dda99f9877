-- Messages from too far ahead, as a history tells of them: the step's time stays below the message's.
use Rattle.std.specs.Prelude.{ℕ, Bool, false, if◌then◌else◌, nat_le, List, map}
use Rattle.peer_messages.specs.declared.event.What.{What}
use Rattle.peer_messages.specs.declared.event.What.TheVariants.{Client, Deliver, Alive, Collect, Flush, Tick}
use Rattle.lawful_orders.specs.Histories.{Taken}

-- a message comes that the time does not pass
abbrev pub stays_below : ℕ → What → Bool
stays_below time (Deliver m) = nat_le time m.time
stays_below time (Client ask) = false
stays_below time (Alive peer up) = false
stays_below time (Collect request) = false
stays_below time Flush = false
stays_below time Tick = false

abbrev pub was_ahead : Taken → Bool
was_ahead t = stays_below t.outputs.time t.event.what

-- the same at a reading of the clock, and nothing else: nothing is refused then
abbrev pub as_tick : Taken → Taken
as_tick t = record { event = record { clock = t.event.clock; what = Tick }; outputs = record t.outputs { refused = false } }

-- a delivery that was refused because its message was ahead counts as such a reading
abbrev pub as_seen : Taken → Taken
as_seen t = if was_ahead t then as_tick t else t

abbrev pub all_seen : List Taken → List Taken
all_seen history = map as_seen history
