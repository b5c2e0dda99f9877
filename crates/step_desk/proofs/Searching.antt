-- Searches of a chronicle in pieces, the newest entry first.
use Rattle.std.proofs.Common.{◌≡◌, ℕ, ◌+◌, ◌-◌, ◌<◌, ◌≤◌, Bool, true, false, cond, Option, Some, None, Result, List, [], ◌∷◌, ◌++◌, length, take, get_or, reverse, arith, refl, sym, ap, subst, ◌∙◌}
use Rattle.std.specs.Prelude.{find, option_and_then}
use Rattle.std.specs.Option.{option_or}
use Rattle.std.proofs.lemmas.List.{append-nil, append_assoc, reverse-append, take_more}
use Rattle.std.proofs.lemmas.List.Folds.{find-append}
use Rattle.std.specs.declared.alloc.AllocError.{AllocError}
use Rattle.cs_base.specs.declared.ids.ReqId.{ReqId}
use Rattle.cs_base.specs.Requests.{is_request}
use Rattle.peer_messages.specs.declared.chronicle.Entry.{Entry}
use Rattle.peer_messages.specs.declared.chronicle.Entry.TheVariants as entry
use Rattle.peer_messages.specs.declared.chronicle.Refusal.{Refusal}
use Rattle.chronicle_pieces.specs.declared.piece.Piece.{Piece}
use Rattle.chronicle_pieces.specs.declared.piece.Piece.TheVariants.{Stepped, Halted, Turned, Failed}
use Rattle.chronicle_pieces.specs.Pieces.{asked, tables_told, fault_told, heading_of, own_of, ending_of, entries_of, joined}
use Rattle.client_desk.specs.declared.answer.Answer.{Answer}
use Rattle.step_desk.specs.Tellings.{is_about, answer_by, told_by, told_as, answer_in, told, HasRows, TellsAs}
use Rattle.step_desk.specs.Outcomes.{begun_as, outcome_by, is_there, is_outcome, outcome}
use Rattle.step_desk.specs.Headings.{heading_outcome, is_asked, unanswered_if}
use Rattle.step_desk.specs.declared.search.News.{News}
use Rattle.step_desk.specs.declared.search.News.TheVariants as telling

-- ---- pieces

joined_last : (xs : List Piece) (y : Piece) → joined (xs ++ y ∷ []) ≡ joined xs ++ entries_of y
joined_last [] y = append-nil (entries_of y)
joined_last (x ∷ xs) y = ap (λ (zs : List Entry). entries_of x ++ zs) (joined_last xs y) ∙ sym (append_assoc (entries_of x) (joined xs) (entries_of y))

found_last : (p : Entry → Bool) (xs : List Piece) (y : Piece) → find p (reverse (joined (xs ++ y ∷ []))) ≡ option_or (find p (reverse (entries_of y))) (find p (reverse (joined xs)))
found_last p xs y =
    ap (λ (zs : List Entry). find p (reverse zs)) (joined_last xs y)
    ∙ ap (λ (zs : List Entry). find p zs) (reverse-append (joined xs) (entries_of y))
    ∙ find-append p (reverse (entries_of y)) (reverse (joined xs))

-- among so many pieces it is found in the last, or else before
found_take : (p : Entry → Bool) (ps : List Piece) (left : ℕ) (y : Piece) → 0 < left → left ≤ length ps → y ≡ get_or ps (left - 1) y
    → find p (reverse (joined (take left ps))) ≡ option_or (find p (reverse (entries_of y))) (find p (reverse (joined (take (left - 1) ps))))
found_take p ps left y pos within at =
    let e : left ≡ left - 1 + 1 = omega (arith, pos) in
    let lt : left - 1 < length ps = omega (arith, pos, within) in
    ap (λ (n : ℕ). find p (reverse (joined (take n ps)))) e
    ∙ ap (λ (zs : List Piece). find p (reverse (joined zs))) (take_more ps (left - 1) y lt)
    ∙ ap (λ (z : Piece). find p (reverse (joined (take (left - 1) ps ++ z ∷ [])))) (sym at)
    ∙ found_last p (take (left - 1) ps) y

-- in the pieces behind those that are left none is found
pub record IsAhead (p : Entry → Bool) (ps : List Piece) (left : ℕ) : Type 0 where
  pub within : left ≤ length ps
  pub same : find p (reverse (joined ps)) ≡ find p (reverse (joined (take left ps)))

found_here : (p : Entry → Bool) (ps : List Piece) (left : ℕ) (y : Piece) → 0 < left → IsAhead p ps left → y ≡ get_or ps (left - 1) y
    → find p (reverse (joined ps)) ≡ option_or (find p (reverse (entries_of y))) (find p (reverse (joined (take (left - 1) ps))))
found_here p ps left y pos ahead at = ahead.same ∙ found_take p ps left y pos ahead.within at

goes_on : (p : Entry → Bool) (ps : List Piece) (left : ℕ) (y : Piece) → 0 < left → IsAhead p ps left → y ≡ get_or ps (left - 1) y → find p (reverse (entries_of y)) ≡ None → IsAhead p ps (left - 1)
goes_on p ps left y pos ahead at none = record {
  within = let h : left ≤ length ps = ahead.within in omega (arith, h);
  same = found_here p ps left y pos ahead at ∙ ap (λ (o : Option Entry). option_or o (find p (reverse (joined (take (left - 1) ps))))) none;
}

-- ---- one piece

within_piece : (p : Entry → Bool) (heading own ending : List Entry) → find p (reverse ending) ≡ None
    → find p (reverse (heading ++ (own ++ ending))) ≡ option_or (find p (reverse own)) (find p (reverse heading))
within_piece p heading own ending none =
    ap (λ (zs : List Entry). find p zs) (reverse-append heading (own ++ ending))
    ∙ find-append p (reverse (own ++ ending)) (reverse heading)
    ∙ ap (λ (o : Option Entry). option_or o (find p (reverse heading)))
    (ap (λ (zs : List Entry). find p zs) (reverse-append own ending) ∙ find-append p (reverse ending) (reverse own)
    ∙ ap (λ (o : Option Entry). option_or o (find p (reverse own))) none)

no_outcome_of_tables : (k : ℕ) (n : Option ℕ) → find is_outcome (reverse (tables_told k n)) ≡ None
no_outcome_of_tables k None = refl
no_outcome_of_tables k (Some n) = refl

no_outcome_of_fault : (k : ℕ) (b : Bool) → find is_outcome (reverse (fault_told k b)) ≡ None
no_outcome_of_fault k true = refl
no_outcome_of_fault k false = refl

no_outcome_at_end : (x : Piece) → find is_outcome (reverse (ending_of x)) ≡ None
no_outcome_at_end (Stepped s) = no_outcome_of_tables s.node s.tables
no_outcome_at_end (Halted h) = no_outcome_of_fault h.node h.has_failed
no_outcome_at_end (Turned k refusal) = refl
no_outcome_at_end (Failed k) = refl

outcome_within : (x : Piece) → find is_outcome (reverse (entries_of x)) ≡ option_or (find is_outcome (reverse (own_of x))) (find is_outcome (reverse (heading_of x)))
outcome_within x = within_piece is_outcome (heading_of x) (own_of x) (ending_of x) (no_outcome_at_end x)

none_of_tables : (id : ReqId) (k : ℕ) (n : Option ℕ) → find (is_about id) (reverse (tables_told k n)) ≡ None
none_of_tables id k None = refl
none_of_tables id k (Some n) = refl

none_of_fault : (id : ReqId) (k : ℕ) (b : Bool) → find (is_about id) (reverse (fault_told k b)) ≡ None
none_of_fault id k true = refl
none_of_fault id k false = refl

none_at_end : (id : ReqId) (x : Piece) → find (is_about id) (reverse (ending_of x)) ≡ None
none_at_end id (Stepped s) = none_of_tables id s.node s.tables
none_at_end id (Halted h) = none_of_fault id h.node h.has_failed
none_at_end id (Turned k refusal) = refl
none_at_end id (Failed k) = refl

about_within : (id : ReqId) (x : Piece) → find (is_about id) (reverse (entries_of x)) ≡ option_or (find (is_about id) (reverse (own_of x))) (find (is_about id) (reverse (heading_of x)))
about_within id x = within_piece (is_about id) (heading_of x) (own_of x) (ending_of x) (none_at_end id x)

-- ---- what stands before a piece's own entries

stepped_outcome : (r : Option ReqId) (k : ℕ) (alive : List ℕ) (j t : ℕ) → outcome (reverse (asked r ++ entry.Marks k alive ∷ entry.Time j t ∷ [])) ≡ begun_as r
stepped_outcome None k alive j t = refl
stepped_outcome (Some r) k alive j t = refl

halted_outcome : (r : Option ReqId) → outcome (reverse (asked r)) ≡ begun_as r
halted_outcome None = refl
halted_outcome (Some r) = refl

heading_found : (x : Piece) → outcome (reverse (heading_of x)) ≡ heading_outcome x
heading_found (Stepped s) = stepped_outcome s.started s.node s.alive s.node s.time
heading_found (Halted h) = halted_outcome h.started
heading_found (Turned k refusal) = refl
heading_found (Failed k) = refl

asked_by_test : (b : Bool) (r : ReqId) → told_as (cond b (Some (entry.Asked (Some r))) None) ≡ unanswered_if b
asked_by_test true r = refl
asked_by_test false r = refl

stepped_told : (id : ReqId) (r : Option ReqId) (k : ℕ) (alive : List ℕ) (j t : ℕ)
    → told_as (find (is_about id) (reverse (asked r ++ entry.Marks k alive ∷ entry.Time j t ∷ []))) ≡ unanswered_if (is_asked (Halted (record { node = k; started = r; entries = []; has_failed = false })) id)
stepped_told id None k alive j t = refl
stepped_told id (Some r) k alive j t = asked_by_test (is_request r id) r

halted_told : (id : ReqId) (r : Option ReqId)
    → told_as (find (is_about id) (reverse (asked r))) ≡ unanswered_if (is_asked (Halted (record { node = 0; started = r; entries = []; has_failed = false })) id)
halted_told id None = refl
halted_told id (Some r) = asked_by_test (is_request r id) r

heading_told : (id : ReqId) (x : Piece) → told_as (find (is_about id) (reverse (heading_of x))) ≡ unanswered_if (is_asked x id)
heading_told id (Stepped s) = stepped_told id s.started s.node s.alive s.node s.time
heading_told id (Halted h) = halted_told id h.started
heading_told id (Turned k refusal) = refl
heading_told id (Failed k) = refl

-- ---- what came of the request that was asked last

-- where one is found it is an outcome
found_is : (xs : List Entry) (e : Entry) → find is_outcome xs ≡ Some e → is_outcome e ≡ true
found_is [] e h = cc
found_is (x ∷ xs) e h = by (is_outcome x) refl h (λ k. found_is xs e k)
  where
    by : (b : Bool) → is_outcome x ≡ b → cond b (Some x) (find is_outcome xs) ≡ Some e → (find is_outcome xs ≡ Some e → is_outcome e ≡ true) → is_outcome e ≡ true
    by true t k rest = subst (λ (y : Entry). is_outcome y ≡ true) (let same : x ≡ e = cc in same) t
    by false t k rest = rest k

none_found : (o : Option Entry) → ((e : Entry) → o ≡ Some e → is_outcome e ≡ true) → None ≡ option_and_then outcome_by o → o ≡ None
none_found None each h = refl
none_found (Some e) each h =
    let t : is_outcome e ≡ true = each e refl in
    let f : is_there (outcome_by e) ≡ false = ap is_there (sym h) in
    cc

no_outcome : (xs : List Entry) → None ≡ outcome xs → find is_outcome xs ≡ None
no_outcome xs h = none_found (find is_outcome xs) (found_is xs) h

first_outcome : (a b : Option Entry) (o : Result ReqId Refusal) → Some o ≡ option_and_then outcome_by a → Some o ≡ option_and_then outcome_by (option_or a b)
first_outcome None b o h = cc
first_outcome (Some e) b o h = h

own_first : (x : Piece) (o : Result ReqId Refusal) → Some o ≡ outcome (reverse (own_of x)) → Some o ≡ outcome (reverse (entries_of x))
own_first x o h =
    first_outcome (find is_outcome (reverse (own_of x))) (find is_outcome (reverse (heading_of x))) o h ∙ ap (λ (f : Option Entry). option_and_then outcome_by f) (sym (outcome_within x))

heading_then : (x : Piece) → None ≡ outcome (reverse (own_of x)) → heading_outcome x ≡ outcome (reverse (entries_of x))
heading_then x h =
    sym (heading_found x)
    ∙ ap (λ (f : Option Entry). option_and_then outcome_by (option_or f (find is_outcome (reverse (heading_of x))))) (sym (no_outcome (reverse (own_of x)) h))
    ∙ ap (λ (f : Option Entry). option_and_then outcome_by f) (sym (outcome_within x))

-- in a piece whose own entries are these
pub own_outcome_is : (x : Piece) (own : List Entry) (o : Result ReqId Refusal) → own ≡ own_of x → Some o ≡ outcome (reverse own) → Some o ≡ outcome (reverse (entries_of x))
own_outcome_is x own o e h = own_first x o (h ∙ ap (λ (xs : List Entry). outcome (reverse xs)) e)

pub heading_outcome_is : (x : Piece) (own : List Entry) (o : Option (Result ReqId Refusal)) → own ≡ own_of x → None ≡ outcome (reverse own) → o ≡ heading_outcome x → o ≡ outcome (reverse (entries_of x))
heading_outcome_is x own o e none h = h ∙ heading_then x (none ∙ ap (λ (xs : List Entry). outcome (reverse xs)) e)

pub outcome_here : (ps : List Piece) (left : ℕ) (y : Piece) (o : Result ReqId Refusal) → 0 < left → IsAhead is_outcome ps left → y ≡ get_or ps (left - 1) y
    → Some o ≡ outcome (reverse (entries_of y)) → Some o ≡ outcome (reverse (joined ps))
outcome_here ps left y o pos ahead at h =
    first_outcome (find is_outcome (reverse (entries_of y))) (find is_outcome (reverse (joined (take (left - 1) ps)))) o h
    ∙ ap (λ (f : Option Entry). option_and_then outcome_by f) (sym (found_here is_outcome ps left y pos ahead at))

pub outcome_ahead : (ps : List Piece) (left : ℕ) (y : Piece) → 0 < left → IsAhead is_outcome ps left → y ≡ get_or ps (left - 1) y → None ≡ outcome (reverse (entries_of y)) → IsAhead is_outcome ps (left - 1)
outcome_ahead ps left y pos ahead at h = goes_on is_outcome ps left y pos ahead at (no_outcome (reverse (entries_of y)) h)

-- ---- what a request was told

own_told : (id : ReqId) (x : Piece) (e : Entry) (result : Result News AllocError) → Some e ≡ find (is_about id) (reverse (own_of x)) → TellsAs result (Some e) → TellsAs result (find (is_about id) (reverse (entries_of x)))
own_told id x e result found h =
    subst (λ (f : Option Entry). TellsAs result f)
    (ap (λ (f : Option Entry). option_or f (find (is_about id) (reverse (heading_of x)))) found ∙ sym (about_within id x)) h

heading_told_then : (id : ReqId) (x : Piece) → None ≡ find (is_about id) (reverse (own_of x)) → unanswered_if (is_asked x id) ≡ told_as (find (is_about id) (reverse (entries_of x)))
heading_told_then id x none =
    sym (heading_told id x)
    ∙ ap (λ (f : Option Entry). told_as (option_or f (find (is_about id) (reverse (heading_of x))))) none
    ∙ ap told_as (sym (about_within id x))

pub own_told_is : (id : ReqId) (x : Piece) (own : List Entry) (e : Entry) (result : Result News AllocError) → own ≡ own_of x → Some e ≡ find (is_about id) (reverse own) → TellsAs result (Some e)
    → TellsAs result (find (is_about id) (reverse (entries_of x)))
own_told_is id x own e result same found h = own_told id x e result (found ∙ ap (λ (xs : List Entry). find (is_about id) (reverse xs)) same) h

pub heading_told_is : (id : ReqId) (x : Piece) (own : List Entry) (b : Bool) (t : News) → own ≡ own_of x → None ≡ find (is_about id) (reverse own) → b ≡ is_asked x id → t ≡ unanswered_if b
    → t ≡ told_as (find (is_about id) (reverse (entries_of x)))
heading_told_is id x own b t same none is h =
    h ∙ ap unanswered_if is ∙ heading_told_then id x (none ∙ ap (λ (xs : List Entry). find (is_about id) (reverse xs)) same)

told_is : (a : Option Answer) → telling.Nothing ≡ told_by a → ⊥
told_is None h = cc
told_is (Some a) h = cc

nothing_found : (f : Option Entry) → telling.Nothing ≡ told_as f → f ≡ None
nothing_found None h = refl
nothing_found (Some e) h = absurd (told_is (answer_by e) h)

back : (a : Option Answer) → answer_in (told_by a) ≡ a
back None = refl
back (Some a) = refl

settled : (f g : Option Entry) (t : News) → t ≡ told_as f → (t ≡ telling.Nothing → ⊥) → answer_in t ≡ option_and_then answer_by (option_or f g)
settled None g t h other = absurd (other h)
settled (Some e) g t h other = ap answer_in h ∙ back (answer_by e)

rows_first : (f g : Option Entry) → HasRows (option_and_then answer_by f) → HasRows (option_and_then answer_by (option_or f g))
rows_first None g h = let e = h.2 in cc
rows_first (Some e) g h = h

told_here : (id : ReqId) (ps : List Piece) (left : ℕ) (y : Piece) (t : News) → 0 < left → IsAhead (is_about id) ps left → y ≡ get_or ps (left - 1) y
    → t ≡ told_as (find (is_about id) (reverse (entries_of y))) → (t ≡ telling.Nothing → ⊥) → answer_in t ≡ told (reverse (joined ps)) id
told_here id ps left y t pos ahead at h other =
    settled (find (is_about id) (reverse (entries_of y))) (find (is_about id) (reverse (joined (take (left - 1) ps)))) t h other
    ∙ ap (λ (f : Option Entry). option_and_then answer_by f) (sym (found_here (is_about id) ps left y pos ahead at))

pub rows_here : (id : ReqId) (ps : List Piece) (left : ℕ) (y : Piece) → 0 < left → IsAhead (is_about id) ps left → y ≡ get_or ps (left - 1) y
    → HasRows (option_and_then answer_by (find (is_about id) (reverse (entries_of y)))) → HasRows (told (reverse (joined ps)) id)
rows_here id ps left y pos ahead at h =
    subst (λ (f : Option Entry). HasRows (option_and_then answer_by f)) (sym (found_here (is_about id) ps left y pos ahead at))
    (rows_first (find (is_about id) (reverse (entries_of y))) (find (is_about id) (reverse (joined (take (left - 1) ps)))) h)

pub told_ahead : (id : ReqId) (ps : List Piece) (left : ℕ) (y : Piece) → 0 < left → IsAhead (is_about id) ps left → y ≡ get_or ps (left - 1) y
    → telling.Nothing ≡ told_as (find (is_about id) (reverse (entries_of y))) → IsAhead (is_about id) ps (left - 1)
told_ahead id ps left y pos ahead at h = goes_on (is_about id) ps left y pos ahead at (nothing_found (find (is_about id) (reverse (entries_of y))) h)

asked_not : telling.Asked ≡ telling.Nothing → ⊥
asked_not e = cc

answered_not : (a : Answer) → telling.Answered a ≡ telling.Nothing → ⊥
answered_not a e = cc

pub told_asked : (id : ReqId) (ps : List Piece) (left : ℕ) (y : Piece) (t : News) → 0 < left → IsAhead (is_about id) ps left → y ≡ get_or ps (left - 1) y
    → t ≡ telling.Asked → t ≡ told_as (find (is_about id) (reverse (entries_of y))) → None ≡ told (reverse (joined ps)) id
told_asked id ps left y t pos ahead at is h = sym (ap answer_in is) ∙ told_here id ps left y t pos ahead at h (λ e. asked_not (sym is ∙ e))

pub told_answered : (id : ReqId) (ps : List Piece) (left : ℕ) (y : Piece) (t : News) (a : Answer) → 0 < left → IsAhead (is_about id) ps left → y ≡ get_or ps (left - 1) y
    → t ≡ telling.Answered a → t ≡ told_as (find (is_about id) (reverse (entries_of y))) → Some a ≡ told (reverse (joined ps)) id
told_answered id ps left y t a pos ahead at is h = sym (ap answer_in is) ∙ told_here id ps left y t pos ahead at h (λ e. answered_not a (sym is ∙ e))
