-- A console's turns, one after another, up to its end.
use Rattle.std.proofs.Common.{◌≡◌, ℕ, ◌≤◌, Bool, true, false, inl, inr, List, [], ◌∷◌, ◌++◌, length, take, map, Option, Some, None, IfSome, refl, sym, ◌∙◌, ap, subst, arith, append_assoc, append-nil}
use Rattle.std.specs.Prelude.{All}
use Rattle.std.proofs.lemmas.Grind.{flat_map-append}
use Rattle.std.proofs.lemmas.List.{map-append}
use Rattle.std.proofs.lemmas.List.Elements.{All-nil, All-cons, All-append}
use Rattle.cs_base.specs.Faults.{HasRisen}
use Rattle.cs_runtime.specs.declared.flag.FlagStop.{FlagStop}
use Rattle.node_calls.specs.declared.call.NodeCall.{NodeCall}
use Rattle.node_calls.specs.declared.reply.NodeReply.{NodeReply}
use Rattle.source_lines.specs.Lines.{Reading, left_of, GivesLine, LosesPart}
use Rattle.served_console.specs.Jobs.{KeepPasses}
use Rattle.served_console.specs.Asking.{Asked}
use Rattle.served_console.specs.Nodes.{MakeFrom}
use Rattle.served_console.specs.Turns.{Turn, turn_of, line_in, made_in, IsTurn, text_in, goes_on, asked_in, texts_in, Closing, AtFlag, AtInputEnd, AtReadFault, AtTurn, AtWriteFault, end_of, is_at_flag, last_in, StopsAt, Closes}
use Rattle.served_console.specs.Writing.{WritesAll}
use Rattle.served_console.specs.Consoles.{TakesTurn, GoesOn, Operates, Works, TakesLine}
use Rattle.served_console.specs.declared.console.Console.{Console}
use Rattle.served_console.specs.declared.end.ConsoleEnd.{ConsoleEnd}
use Rattle.served_console.specs.declared.end.ConsoleEnd.TheVariants as end
use Rattle.served_console.specs.declared.node.OperatedNode.{OperatedNode}
use Rattle.served_console.proofs.NodeLaws.{make_nothing, make_then, make-length, passes_stay, passes_kept}
use Rattle.served_console.proofs.TurnLaws.{Reads, ReadsUp, reads_none, reads_then, reads_up, reads_line, reads_end, reads_fault, reads_still}
use Rattle.served_console.proofs.WriteLaws.{writes_none, writes_more, risen_later}

-- ---- texts and asks of several turns

asked_then : (xs ys : List Turn) → asked_in (xs ++ ys) ≡ asked_in xs ++ asked_in ys
asked_then xs ys = flat_map-append made_in xs ys

texts_then : (nodes : ℕ) (xs ys : List Turn) → texts_in nodes (xs ++ ys) ≡ texts_in nodes xs ++ texts_in nodes ys
texts_then nodes xs ys = flat_map-append (text_in nodes) xs ys

-- a text and those of turns, and then those of more turns
texts_behind : (nodes : ℕ) (opening : List ℕ) (xs ys : List Turn) → (opening ++ texts_in nodes xs) ++ ([] ++ texts_in nodes ys) ≡ opening ++ texts_in nodes (xs ++ ys)
texts_behind nodes opening xs ys = append_assoc opening (texts_in nodes xs) (texts_in nodes ys) ∙ ap (λ (t : List ℕ). opening ++ t) (sym (texts_then nodes xs ys))

last_behind : (nodes : ℕ) (opening last : List ℕ) (xs ys : List Turn)
    → (opening ++ texts_in nodes xs) ++ (([] ++ texts_in nodes ys) ++ last) ≡ (opening ++ texts_in nodes (xs ++ ys)) ++ last
last_behind nodes opening last xs ys =
    sym (append_assoc (opening ++ texts_in nodes xs) ([] ++ texts_in nodes ys) last) ∙ ap (λ (t : List ℕ). t ++ last) (texts_behind nodes opening xs ys)

up_to_turn : (turn : Turn) (o o' : Option (List ℕ)) (lines : List (List ℕ)) (line : List ℕ) → Reads o lines o' → ReadsUp (AtTurn turn) o lines line o'
up_to_turn turn None o' lines line r = tt
up_to_turn turn (Some left) o' lines line r = r

up_to_fault : (turn : Turn) (o o' : Option (List ℕ)) (lines : List (List ℕ)) (line : List ℕ) → Reads o lines o' → ReadsUp (AtWriteFault turn) o lines line o'
up_to_fault turn None o' lines line r = tt
up_to_fault turn (Some left) o' lines line r = r

-- a sign that answers no has never answered yes
pub was_down : (before now : Bool) → false ≡ now → (before ≡ true → now ≡ true) → (now ≡ false) × (before ≡ false)
was_down true now down stays = let up : now ≡ true = stays refl in cc
was_down false now down stays = (sym down, refl)

module _ {W N C S T Entry : Type 0} (steps : N → Entry → N → Type 0) (event_of : Entry → NodeCall) (reply_of : Entry → NodeReply) (refuses : N → NodeCall → NodeCall → Type 0)
    (gives : C → ℕ → Type 0) (remaining : S → Option (List ℕ)) (source_faults : S → ℕ) (contents : T → Option (List ℕ)) (sink_faults : T → ℕ) where
  nodes_stay : (opening : List ℕ) (c c' : Console W N C S T Entry) (turns : List Turn) → GoesOn steps event_of reply_of refuses gives remaining source_faults contents sink_faults opening c turns c' → length c'.nodes.items ≡ length c.nodes.items
  nodes_stay opening c c' turns h = make-length steps event_of reply_of refuses gives 0 c.nodes.items c'.nodes.items (asked_in turns) h.make

  -- only a text was written
  pub only_written : (opening : List ℕ) (c c' : Console W N C S T Entry) → WritesAll (contents c.sink) (contents c'.sink) opening → sink_faults c.sink ≤ sink_faults c'.sink
      → c'.source ≡ c.source → c'.lines ≡ c.lines → c'.nodes.items ≡ c.nodes.items → c'.sign.was_up ≡ c.sign.was_up → GoesOn steps event_of reply_of refuses gives remaining source_faults contents sink_faults opening c [] c'
  only_written opening c c' written faults source lines nodes sign = record {
    are_turns = All-nil (IsTurn (length c.nodes.items));
    going = All-nil (λ (t : Turn). goes_on (length c.nodes.items) t ≡ true);
    reads =
        subst (λ (s : S). Reads (left_of c.lines.ahead (remaining c.source)) [] (left_of c'.lines.ahead (remaining s))) (sym source)
        (subst (λ (l : Reading). Reads (left_of c.lines.ahead (remaining c.source)) [] (left_of l.ahead (remaining c.source))) (sym lines)
        (reads_none (left_of c.lines.ahead (remaining c.source))));
    writes = subst (λ (t : List ℕ). WritesAll (contents c.sink) (contents c'.sink) t) (sym (append-nil opening)) written;
    make = subst (λ (xs : List (OperatedNode W N C Entry)). MakeFrom steps event_of reply_of refuses gives 0 c.nodes.items [] xs) (sym nodes) (make_nothing steps event_of reply_of refuses gives c.nodes.items);
    sign = sign;
    read_faults = let same : source_faults c'.source ≡ source_faults c.source = ap source_faults source in omega arith;
    write_faults = faults;
  }

  pub nothing_done : (c : Console W N C S T Entry) → GoesOn steps event_of reply_of refuses gives remaining source_faults contents sink_faults [] c [] c
  nothing_done c = only_written [] c c (writes_none (contents c.sink)) (omega arith) refl refl refl refl

  pub goes_then : (opening : List ℕ) (c mid c' : Console W N C S T Entry) (xs ys : List Turn) → GoesOn steps event_of reply_of refuses gives remaining source_faults contents sink_faults opening c xs mid → GoesOn steps event_of reply_of refuses gives remaining source_faults contents sink_faults [] mid ys c' → GoesOn steps event_of reply_of refuses gives remaining source_faults contents sink_faults opening c (xs ++ ys) c'
  goes_then opening c mid c' xs ys h k =
      let same = nodes_stay opening c mid xs h in
      record {
        are_turns = All-append (IsTurn (length c.nodes.items)) xs ys h.are_turns (subst (λ (n : ℕ). All (IsTurn n) ys) same k.are_turns);
        going =
            All-append (λ (t : Turn). goes_on (length c.nodes.items) t ≡ true) xs ys h.going
            (subst (λ (n : ℕ). All (λ (t : Turn). goes_on n t ≡ true) ys) same k.going);
        reads =
            subst (λ (lines : List (List ℕ)). Reads (left_of c.lines.ahead (remaining c.source)) lines (left_of c'.lines.ahead (remaining c'.source))) (sym (map-append line_in xs ys))
            (reads_then (left_of c.lines.ahead (remaining c.source)) (left_of mid.lines.ahead (remaining mid.source)) (left_of c'.lines.ahead (remaining c'.source)) (map line_in xs) (map line_in ys) h.reads k.reads);
        writes =
            subst (WritesAll (contents c.sink) (contents c'.sink)) (texts_behind (length c.nodes.items) opening xs ys)
            (writes_more (contents c.sink) (contents mid.sink) (contents c'.sink) (opening ++ texts_in (length c.nodes.items) xs) ([] ++ texts_in (length c.nodes.items) ys) h.writes
            (subst (λ (n : ℕ). WritesAll (contents mid.sink) (contents c'.sink) ([] ++ texts_in n ys)) same k.writes));
        make =
            subst (λ (made : List Asked). MakeFrom steps event_of reply_of refuses gives 0 c.nodes.items made c'.nodes.items) (sym (asked_then xs ys))
            (make_then steps event_of reply_of refuses gives 0 c.nodes.items mid.nodes.items c'.nodes.items (asked_in xs) (asked_in ys) h.make k.make);
        sign = k.sign ∙ h.sign;
        read_faults = omega (arith, h.read_faults, k.read_faults);
        write_faults = omega (arith, h.write_faults, k.write_faults);
      }

  pub then_ends : (opening : List ℕ) (c mid c' : Console W N C S T Entry) (ended : ConsoleEnd) (xs : List Turn) → GoesOn steps event_of reply_of refuses gives remaining source_faults contents sink_faults opening c xs mid → Operates steps event_of reply_of refuses gives remaining source_faults contents sink_faults [] mid ended c' → Operates steps event_of reply_of refuses gives remaining source_faults contents sink_faults opening c ended c'
  then_ends opening c mid c' ended xs h k =
      let same = nodes_stay opening c mid xs h in
      let all : (xs ++ k.before) ++ last_in k.closing ≡ xs ++ (k.before ++ last_in k.closing) = append_assoc xs k.before (last_in k.closing) in
      record {
        before = xs ++ k.before;
        closing = k.closing;
        last_text = k.last_text;
        end_is = k.end_is;
        are_turns =
            subst (λ (ts : List Turn). All (IsTurn (length c.nodes.items)) ts) (sym all)
            (All-append (IsTurn (length c.nodes.items)) xs (k.before ++ last_in k.closing) h.are_turns (subst (λ (n : ℕ). All (IsTurn n) (k.before ++ last_in k.closing)) same k.are_turns));
        going =
            All-append (λ (t : Turn). goes_on (length c.nodes.items) t ≡ true) xs k.before h.going
            (subst (λ (n : ℕ). All (λ (t : Turn). goes_on n t ≡ true) k.before) same k.going);
        stops = subst (λ (n : ℕ). StopsAt n k.closing) same k.stops;
        reads =
            subst (λ (ts : List Turn). ReadsUp k.closing (left_of c.lines.ahead (remaining c.source)) (map line_in ts) c'.lines.line (left_of c'.lines.ahead (remaining c'.source))) (sym all)
            (subst (λ (lines : List (List ℕ)). ReadsUp k.closing (left_of c.lines.ahead (remaining c.source)) lines c'.lines.line (left_of c'.lines.ahead (remaining c'.source)))
            (sym (map-append line_in xs (k.before ++ last_in k.closing)))
            (reads_up k.closing (left_of c.lines.ahead (remaining c.source)) (left_of mid.lines.ahead (remaining mid.source)) (left_of c'.lines.ahead (remaining c'.source))
            (map line_in xs) (map line_in (k.before ++ last_in k.closing)) c'.lines.line h.reads k.reads));
        closes = subst (λ (n : ℕ). Closes n k.closing k.last_text) same k.closes;
        writes =
            subst (WritesAll (contents c.sink) (contents c'.sink)) (last_behind (length c.nodes.items) opening k.last_text xs k.before)
            (writes_more (contents c.sink) (contents mid.sink) (contents c'.sink) (opening ++ texts_in (length c.nodes.items) xs) (([] ++ texts_in (length c.nodes.items) k.before) ++ k.last_text) h.writes
            (subst (λ (n : ℕ). WritesAll (contents mid.sink) (contents c'.sink) (([] ++ texts_in n k.before) ++ k.last_text)) same k.writes));
        make =
            subst (λ (ts : List Turn). MakeFrom steps event_of reply_of refuses gives 0 c.nodes.items (asked_in ts) c'.nodes.items) (sym all)
            (subst (λ (made : List Asked). MakeFrom steps event_of reply_of refuses gives 0 c.nodes.items made c'.nodes.items) (sym (asked_then xs (k.before ++ last_in k.closing)))
            (make_then steps event_of reply_of refuses gives 0 c.nodes.items mid.nodes.items c'.nodes.items (asked_in xs) (asked_in (k.before ++ last_in k.closing)) h.make k.make));
        read_faults = omega (arith, h.read_faults, k.read_faults);
        write_faults = omega (arith, h.write_faults, k.write_faults);
        sign = k.sign;
        unread = λ e. risen_later (source_faults c.source) (source_faults mid.source) (source_faults c'.source) h.read_faults k.read_faults (k.unread e);
        unwritten = λ e. risen_later (sink_faults c.sink) (sink_faults mid.sink) (sink_faults c'.sink) h.write_faults k.write_faults (k.unwritten e);
      }

  -- ---- ends without a turn

  ends_here : (closing : Closing) (c c' : Console W N C S T Entry) (ended : ConsoleEnd) → ended ≡ end_of closing → last_in closing ≡ [] → StopsAt (length c.nodes.items) closing → Closes (length c.nodes.items) closing []
      → ReadsUp closing (left_of c.lines.ahead (remaining c.source)) [] c'.lines.line (left_of c'.lines.ahead (remaining c'.source)) → c'.sink ≡ c.sink → c'.nodes.items ≡ c.nodes.items
      → source_faults c.source ≤ source_faults c'.source → (ended ≡ end.ReadFault → HasRisen (source_faults c.source) (source_faults c'.source)) → (ended ≡ end.WriteFault → ⊥) → c'.sign.was_up ≡ is_at_flag closing → Operates steps event_of reply_of refuses gives remaining source_faults contents sink_faults [] c ended c'
  ends_here closing c c' ended is none stops closes reads sink nodes faults unread written sign = record {
    before = [];
    closing = closing;
    last_text = [];
    end_is = is;
    are_turns = subst (λ (ts : List Turn). All (IsTurn (length c.nodes.items)) ts) (sym none) (All-nil (IsTurn (length c.nodes.items)));
    going = All-nil (λ (t : Turn). goes_on (length c.nodes.items) t ≡ true);
    stops = stops;
    reads =
        subst (λ (ts : List Turn). ReadsUp closing (left_of c.lines.ahead (remaining c.source)) (map line_in ts) c'.lines.line (left_of c'.lines.ahead (remaining c'.source))) (sym none) reads;
    closes = closes;
    writes = subst (λ (t : T). WritesAll (contents c.sink) (contents t) []) (sym sink) (writes_none (contents c.sink));
    make =
        subst (λ (ts : List Turn). MakeFrom steps event_of reply_of refuses gives 0 c.nodes.items (asked_in ts) c'.nodes.items) (sym none)
        (subst (λ (xs : List (OperatedNode W N C Entry)). MakeFrom steps event_of reply_of refuses gives 0 c.nodes.items [] xs) (sym nodes) (make_nothing steps event_of reply_of refuses gives c.nodes.items));
    read_faults = faults;
    write_faults = let same : sink_faults c'.sink ≡ sink_faults c.sink = ap sink_faults sink in omega arith;
    sign = sign;
    unread = unread;
    unwritten = λ e. absurd (written e);
  }

  pub ends_at_flag : (c c' : Console W N C S T Entry) → c'.sign.was_up ≡ true → c'.source ≡ c.source → c'.lines ≡ c.lines → c'.sink ≡ c.sink → c'.nodes.items ≡ c.nodes.items → Operates steps event_of reply_of refuses gives remaining source_faults contents sink_faults [] c end.Ended c'
  ends_at_flag c c' sign source lines sink nodes =
      let same : source_faults c'.source ≡ source_faults c.source = ap source_faults source in
      ends_here AtFlag c c' end.Ended refl refl tt refl
      (subst (λ (s : S). ReadsUp AtFlag (left_of c.lines.ahead (remaining c.source)) [] c'.lines.line (left_of c'.lines.ahead (remaining s))) (sym source)
      (subst (λ (l : Reading). ReadsUp AtFlag (left_of c.lines.ahead (remaining c.source)) [] l.line (left_of l.ahead (remaining c.source))) (sym lines)
      (reads_still (left_of c.lines.ahead (remaining c.source)) c.lines.line)))
      sink nodes (omega arith) (λ e. cc) (λ e. cc) sign

  pub ends_at_input : (c c' : Console W N C S T Entry) (found : Bool) → found ≡ false → IfSome (left_of c.lines.ahead (remaining c.source)) (λ left. GivesLine found left c'.lines.line (left_of c'.lines.ahead (remaining c'.source)))
      → c'.sink ≡ c.sink → c'.nodes.items ≡ c.nodes.items → source_faults c.source ≤ source_faults c'.source → c'.sign.was_up ≡ false → Operates steps event_of reply_of refuses gives remaining source_faults contents sink_faults [] c end.Ended c'
  ends_at_input c c' found none g sink nodes faults sign =
      let gives = subst (λ (b : Bool). IfSome (left_of c.lines.ahead (remaining c.source)) (λ left. GivesLine b left c'.lines.line (left_of c'.lines.ahead (remaining c'.source)))) none g in
      ends_here AtInputEnd c c' end.Ended refl refl tt refl
      (reads_end (left_of c.lines.ahead (remaining c.source)) (left_of c'.lines.ahead (remaining c'.source)) c'.lines.line c'.lines.line gives) sink nodes faults (λ e. cc) (λ e. cc) sign

  pub ends_at_read : (c c' : Console W N C S T Entry) → IfSome (left_of c.lines.ahead (remaining c.source)) (λ left. LosesPart left c'.lines.line (left_of c'.lines.ahead (remaining c'.source)))
      → c'.sink ≡ c.sink → c'.nodes.items ≡ c.nodes.items → source_faults c.source ≤ source_faults c'.source → HasRisen (source_faults c.source) (source_faults c'.source) → c'.sign.was_up ≡ false → Operates steps event_of reply_of refuses gives remaining source_faults contents sink_faults [] c end.ReadFault c'
  ends_at_read c c' g sink nodes faults risen sign =
      ends_here AtReadFault c c' end.ReadFault refl refl tt refl
      (reads_fault (left_of c.lines.ahead (remaining c.source)) (left_of c'.lines.ahead (remaining c'.source)) c'.lines.line g) sink nodes faults (λ e. risen) (λ e. cc) sign

  -- ---- a turn

  -- what was found last is read
  reads_turn : (c mid c' : Console W N C S T Entry) → IfSome (left_of c.lines.ahead (remaining c.source)) (λ left. GivesLine true left mid.lines.line (left_of mid.lines.ahead (remaining mid.source)))
      → c'.source ≡ mid.source → c'.lines ≡ mid.lines → Reads (left_of c.lines.ahead (remaining c.source)) (mid.lines.line ∷ []) (left_of c'.lines.ahead (remaining c'.source))
  reads_turn c mid c' g source lines =
      subst (λ (s : S). Reads (left_of c.lines.ahead (remaining c.source)) (mid.lines.line ∷ []) (left_of c'.lines.ahead (remaining s))) (sym source)
      (subst (λ (l : Reading). Reads (left_of c.lines.ahead (remaining c.source)) (mid.lines.line ∷ []) (left_of l.ahead (remaining mid.source))) (sym lines)
      (reads_line (left_of c.lines.ahead (remaining c.source)) (left_of mid.lines.ahead (remaining mid.source)) mid.lines.line g))

  -- the answer is written whole
  goes_on_behind : (c mid c' : Console W N C S T Entry) (t : TakesTurn steps event_of reply_of refuses gives contents sink_faults None mid c') → mid.sink ≡ c.sink → mid.nodes.items ≡ c.nodes.items → source_faults c.source ≤ source_faults mid.source
      → IfSome (left_of c.lines.ahead (remaining c.source)) (λ left. GivesLine true left mid.lines.line (left_of mid.lines.ahead (remaining mid.source))) → mid.sign.was_up ≡ c.sign.was_up → TakesLine steps event_of reply_of refuses gives remaining source_faults contents sink_faults None c c'
  goes_on_behind c mid c' t sink nodes faults g sign =
      let turn : Turn = turn_of mid.lines.line t.made in
      let count : length mid.nodes.items ≡ length c.nodes.items = ap length nodes in (
        turn,
        record {
          are_turns = All-cons (IsTurn (length c.nodes.items)) turn [] (subst (λ (n : ℕ). IsTurn n turn) count t.is_turn) (All-nil (IsTurn (length c.nodes.items)));
          going =
              All-cons (λ (u : Turn). goes_on (length c.nodes.items) u ≡ true) turn [] (subst (λ (n : ℕ). goes_on n turn ≡ true) count t.answered.0)
              (All-nil (λ (u : Turn). goes_on (length c.nodes.items) u ≡ true));
          reads = reads_turn c mid c' g t.source t.lines;
          writes =
              subst (WritesAll (contents c.sink) (contents c'.sink)) (sym (append-nil (text_in (length c.nodes.items) turn)))
              (subst (λ (n : ℕ). WritesAll (contents c.sink) (contents c'.sink) (text_in n turn)) count
              (subst (λ (s : T). WritesAll (contents s) (contents c'.sink) (text_in (length mid.nodes.items) turn)) sink t.answered.1));
          make =
              subst (λ (made : List Asked). MakeFrom steps event_of reply_of refuses gives 0 c.nodes.items made c'.nodes.items) (sym (append-nil t.made))
              (subst (λ (xs : List (OperatedNode W N C Entry)). MakeFrom steps event_of reply_of refuses gives 0 xs t.made c'.nodes.items) nodes t.make);
          sign = ap (λ (s : FlagStop). s.was_up) t.sign ∙ sign;
          read_faults = let same : source_faults c'.source ≡ source_faults mid.source = ap source_faults t.source in omega arith;
          write_faults = subst (λ (s : T). sink_faults s ≤ sink_faults c'.sink) sink t.write_faults;
        },
      )

  -- it is the last one
  ends_behind : (closing : Closing) (result : ConsoleEnd) (last : List ℕ) (c mid c' : Console W N C S T Entry) (t : TakesTurn steps event_of reply_of refuses gives contents sink_faults (Some result) mid c') → mid.sink ≡ c.sink → mid.nodes.items ≡ c.nodes.items
      → source_faults c.source ≤ source_faults mid.source
      → IfSome (left_of c.lines.ahead (remaining c.source)) (λ left. GivesLine true left mid.lines.line (left_of mid.lines.ahead (remaining mid.source)))
      → result ≡ end_of closing → last_in closing ≡ turn_of mid.lines.line t.made ∷ [] → StopsAt (length mid.nodes.items) closing → Closes (length mid.nodes.items) closing last
      → ((o o' : Option (List ℕ)) (lines : List (List ℕ)) (line : List ℕ) → Reads o lines o' → ReadsUp closing o lines line o')
      → WritesAll (contents mid.sink) (contents c'.sink) last → (result ≡ end.ReadFault → ⊥) → (result ≡ end.WriteFault → HasRisen (sink_faults mid.sink) (sink_faults c'.sink)) → mid.sign.was_up ≡ is_at_flag closing → Operates steps event_of reply_of refuses gives remaining source_faults contents sink_faults [] c result c'
  ends_behind closing result last c mid c' t sink nodes faults g is ends stops closes up written unread unwritten sign =
      let turn : Turn = turn_of mid.lines.line t.made in
      let count : length mid.nodes.items ≡ length c.nodes.items = ap length nodes in
      record {
        before = [];
        closing = closing;
        last_text = last;
        end_is = is;
        are_turns =
            subst (λ (ts : List Turn). All (IsTurn (length c.nodes.items)) ts) (sym ends)
            (All-cons (IsTurn (length c.nodes.items)) turn [] (subst (λ (n : ℕ). IsTurn n turn) count t.is_turn) (All-nil (IsTurn (length c.nodes.items))));
        going = All-nil (λ (u : Turn). goes_on (length c.nodes.items) u ≡ true);
        stops = subst (λ (n : ℕ). StopsAt n closing) count stops;
        reads =
            subst (λ (ts : List Turn). ReadsUp closing (left_of c.lines.ahead (remaining c.source)) (map line_in ts) c'.lines.line (left_of c'.lines.ahead (remaining c'.source))) (sym ends)
            (up (left_of c.lines.ahead (remaining c.source)) (left_of c'.lines.ahead (remaining c'.source)) (mid.lines.line ∷ []) c'.lines.line (reads_turn c mid c' g t.source t.lines));
        closes = subst (λ (n : ℕ). Closes n closing last) count closes;
        writes = subst (λ (s : T). WritesAll (contents s) (contents c'.sink) last) sink written;
        make =
            subst (λ (ts : List Turn). MakeFrom steps event_of reply_of refuses gives 0 c.nodes.items (asked_in ts) c'.nodes.items) (sym ends)
            (subst (λ (made : List Asked). MakeFrom steps event_of reply_of refuses gives 0 c.nodes.items made c'.nodes.items) (sym (append-nil t.made))
            (subst (λ (xs : List (OperatedNode W N C Entry)). MakeFrom steps event_of reply_of refuses gives 0 xs t.made c'.nodes.items) nodes t.make));
        read_faults = let same : source_faults c'.source ≡ source_faults mid.source = ap source_faults t.source in omega arith;
        write_faults = subst (λ (s : T). sink_faults s ≤ sink_faults c'.sink) sink t.write_faults;
        sign = ap (λ (s : FlagStop). s.was_up) t.sign ∙ sign;
        unread = λ e. absurd (unread e);
        unwritten = λ e. subst (λ (s : T). HasRisen (sink_faults s) (sink_faults c'.sink)) sink (unwritten e);
      }

  pub takes_line : (result : Option ConsoleEnd) (c mid c' : Console W N C S T Entry) → TakesTurn steps event_of reply_of refuses gives contents sink_faults result mid c' → mid.sink ≡ c.sink → mid.nodes.items ≡ c.nodes.items → source_faults c.source ≤ source_faults mid.source
      → (found : Bool) → found ≡ true → IfSome (left_of c.lines.ahead (remaining c.source)) (λ left. GivesLine found left mid.lines.line (left_of mid.lines.ahead (remaining mid.source)))
      → mid.sign.was_up ≡ false → c.sign.was_up ≡ false → TakesLine steps event_of reply_of refuses gives remaining source_faults contents sink_faults result c c'
  takes_line None c mid c' t sink nodes faults found is g down before =
      let P : Bool → Type 0 = λ b. IfSome (left_of c.lines.ahead (remaining c.source)) (λ left. GivesLine b left mid.lines.line (left_of mid.lines.ahead (remaining mid.source))) in
      goes_on_behind c mid c' t sink nodes faults (subst P is g) (down ∙ sym before)
  takes_line (Some end.Ended) c mid c' t sink nodes faults found is g down before =
      let P : Bool → Type 0 = λ b. IfSome (left_of c.lines.ahead (remaining c.source)) (λ left. GivesLine b left mid.lines.line (left_of mid.lines.ahead (remaining mid.source))) in
      let turn : Turn = turn_of mid.lines.line t.made in
      ends_behind (AtTurn turn) end.Ended (text_in (length mid.nodes.items) turn) c mid c' t sink nodes faults (subst P is g) refl refl t.answered.0 refl (up_to_turn turn) t.answered.1 (λ e. cc) (λ e. cc) down
  takes_line (Some end.ReadFault) c mid c' t sink nodes faults found is g down before = absurd t.answered
  takes_line (Some end.WriteFault) c mid c' t sink nodes faults found is g down before =
      let P : Bool → Type 0 = λ b. IfSome (left_of c.lines.ahead (remaining c.source)) (λ left. GivesLine b left mid.lines.line (left_of mid.lines.ahead (remaining mid.source))) in
      let turn : Turn = turn_of mid.lines.line t.made in
      let part = t.answered.0 in
      ends_behind (AtWriteFault turn) end.WriteFault (take part.0 (text_in (length mid.nodes.items) turn)) c mid c' t sink nodes faults (subst P is g) refl refl tt (part.0, part.1, refl) (up_to_fault turn)
      part.2 (λ e. cc) (λ e. t.answered.1) down

  -- ---- the whole

  pub opened : (opening : List ℕ) (c mid c' : Console W N C S T Entry) (ended : ConsoleEnd) → GoesOn steps event_of reply_of refuses gives remaining source_faults contents sink_faults opening c [] mid → Operates steps event_of reply_of refuses gives remaining source_faults contents sink_faults [] mid ended c' → Works steps event_of reply_of refuses gives remaining source_faults contents sink_faults opening c ended c'
  opened opening c mid c' ended h k = inr (inr (then_ends opening c mid c' ended [] h k))

  pub passes_given : (opening : List ℕ) (c c' : Console W N C S T Entry) (ended : ConsoleEnd) → Works steps event_of reply_of refuses gives remaining source_faults contents sink_faults opening c ended c' → KeepPasses c.nodes.items c'.nodes.items
  passes_given opening c c' ended (inl shut) = subst (KeepPasses c.nodes.items) (sym shut.nodes) (passes_stay c.nodes.items)
  passes_given opening c c' ended (inr (inl unopened)) =
      subst (KeepPasses c.nodes.items) (sym unopened.nodes) (passes_stay c.nodes.items)
  passes_given opening c c' ended (inr (inr done)) = passes_kept steps event_of reply_of refuses gives 0 c.nodes.items c'.nodes.items (asked_in (done.before ++ last_in done.closing)) done.make
