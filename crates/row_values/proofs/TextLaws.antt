-- Literals one behind another, and those of them that are shown.
use Rattle.std.proofs.Common.{◌≡◌, ◌≤◌, ◌<◌, ℕ, zero, suc, ◌+◌, ◌-◌, ◌∷◌, [], ◌++◌, Bool, true, false, cond, List, Option, Some, None, get_or, length, take, drop, flat_map, refl, sym, ap, ◌∙◌, arith, subst, append_assoc}
use Rattle.std.specs.Prelude.{codes, slice_get}
use Rattle.std.proofs.Math.ListN.{drop_of_length-le}
use Rattle.std.proofs.lemmas.List.{append-nil, length-append, take_at, take_more, drop_at}
use Rattle.std.proofs.lemmas.List.Concat.{flat_map-append, flat_map-cons}
use Rattle.changes.specs.declared.ShownCell.{ShownCell}
use Rattle.changes.specs.declared.ShownRow.{ShownRow}
use Rattle.cql_values.specs.declared.value.CqlValue.{CqlValue}
use Rattle.key_restrictions.specs.Places.{is_clustering, is_key}
use Rattle.schema_book.specs.declared.table.ColumnDef.{ColumnDef}
use Rattle.row_values.specs.declared.literals.Literals.{Literals}
use Rattle.row_values.specs.declared.literals.Mark.{Mark}
use Rattle.row_values.specs.declared.literals.Span.{Span}
use Rattle.row_values.specs.Fronts.{IsFrontAs, Adds}
use Rattle.row_values.specs.Lines.{IsLine, AreLines}
use Rattle.row_values.specs.Prints.{value_text, found_text, text_at, next_text, values_text}
use Rattle.row_values.specs.Texts.{span_at, spans_of, AreOf, Extends, ExtendsBy, piece_of, shown_at, next_shown, shown_text, Begins, HasLine}
use Rattle.row_values.specs.Values.{AreRead, clustering_columns, cell_value, others_from, other_values, key_values, AreValuesOf}
use Rattle.row_values.proofs.Reading.{GoesOn, ahead, skipped, taken, finished}

abbrev texts : List (Option CqlValue) → List ℕ
texts values = flat_map value_text values

-- ---- one more

text_more : (vs : List (Option CqlValue)) (v : Option CqlValue) → texts (vs ++ v ∷ []) ≡ texts vs ++ value_text v
text_more vs v =
    flat_map-append value_text vs (v ∷ []) ∙ ap (λ (t : List ℕ). texts vs ++ t) (flat_map-cons value_text v [] ∙ append-nil (value_text v))

text_len : (v : Option CqlValue) (vs : List (Option CqlValue)) → length (texts (v ∷ vs)) ≡ length (value_text v) + length (texts vs)
text_len v vs = ap length (flat_map-cons value_text v vs) ∙ length-append (value_text v) (texts vs)

spans_more : (n : ℕ) (vs : List (Option CqlValue)) (v : Option CqlValue)
    → spans_of n (vs ++ v ∷ []) ≡ spans_of n vs ++ span_at (n + length (texts vs)) (n + length (texts vs) + length (value_text v)) ∷ []
spans_more n [] v = let e : n ≡ n + length (texts []) = omega arith in (λ i. span_at (e i) (e i + length (value_text v)) ∷ [])
spans_more n (w ∷ vs) v =
    let m = n + length (value_text w) in
    let len = text_len w vs in
    let e : m + length (texts vs) ≡ n + length (texts (w ∷ vs)) = omega arith in
    ap (λ (ss : List Span). span_at n m ∷ ss) (spans_more m vs v ∙ (λ i. spans_of m vs ++ span_at (e i) (e i + length (value_text v)) ∷ []))

pub one_more : (v : Option CqlValue) (old mid new : Literals) (start : ℕ) → start ≡ length old.text.items → mid.text.items ≡ old.text.items ++ value_text v → mid.spans.items ≡ old.spans.items → new.text.items ≡ mid.text.items
    → new.spans.items ≡ mid.spans.items ++ span_at start (length mid.text.items) ∷ [] → Extends (v ∷ []) old new
one_more v old mid new start from text same kept ended before are =
    let at = ap length are.text in
    let to = ap length text in
    let sum = length-append old.text.items (value_text v) in
    let s : start ≡ 0 + length (texts before) = omega arith in
    let e : length mid.text.items ≡ 0 + length (texts before) + length (value_text v) = omega arith in
    record {
      text = kept ∙ text ∙ ap (λ (t : List ℕ). t ++ value_text v) are.text ∙ sym (text_more before v);
      spans = ended ∙ (λ i. (same ∙ are.spans) i ++ span_at (s i) (e i) ∷ []) ∙ sym (spans_more 0 before v);
    }

-- ---- more and more

pub stays : (a : Literals) → Extends [] a a
stays a before are = subst (λ (vs : List (Option CqlValue)). AreOf vs a) (sym (append-nil before)) are

pub extends_append : (xs ys : List (Option CqlValue)) (a b c : Literals) → Extends xs a b → Extends ys b c → Extends (xs ++ ys) a c
extends_append xs ys a b c first second before are =
    subst (λ (vs : List (Option CqlValue)). AreOf vs c) (append_assoc before xs ys) (second (before ++ xs) (first before are))

-- once these come behind what is there, all of them came behind what was there
abbrev pub LeadsTo : List (Option CqlValue) → Literals → List (Option CqlValue) → Literals → Type 0
LeadsTo all old left now = (last : Literals) → Extends left now last → Extends all old last

pub starts : (all : List (Option CqlValue)) (old : Literals) → LeadsTo all old all old
starts all old last e = e

pub arrives : (all : List (Option CqlValue)) (old now : Literals) → LeadsTo all old [] now → Extends all old now
arrives all old now h = h now (stays now)

pub leads_on : (all : List (Option CqlValue)) (old now next : Literals) (v : Option CqlValue) (left : List (Option CqlValue)) → LeadsTo all old (v ∷ left) now → Extends (v ∷ []) now next
    → LeadsTo all old left next
leads_on all old now next v left h e last later = h last (extends_append (v ∷ []) left now next last e later)

pub value_leads : (all : List (Option CqlValue)) (old now next : Literals) (i : ℕ) (v : Option CqlValue) → i < length all → v ≡ get_or all i v → LeadsTo all old (drop i all) now
    → Extends (v ∷ []) now next → LeadsTo all old (drop (i + 1) all) next
value_leads all old now next i v within at h e =
    leads_on all old now next v (drop (i + 1) all) (subst (λ (left : List (Option CqlValue)). LeadsTo all old left now) (ahead all i v within at) h) e

pub value_ends : (all : List (Option CqlValue)) (old now : Literals) (i : ℕ) → length all ≤ i → LeadsTo all old (drop i all) now → Extends all old now
value_ends all old now i past h = arrives all old now (subst (λ (left : List (Option CqlValue)). LeadsTo all old left now) (drop_of_length-le all {i = i} past) h)

-- ---- the other columns

abbrev pub OthersLead : List ColumnDef → List ShownCell → Literals → ℕ → Literals → Type 0
OthersLead columns cells old n now = LeadsTo (other_values columns cells) old (others_from cells n (drop n columns)) now

others_ahead : (columns : List ColumnDef) (cells : List ShownCell) (old now : Literals) (n : ℕ) (c : ColumnDef) (b : Bool) → n < length columns → c ≡ get_or columns n c → is_key c.kind ≡ b
    → OthersLead columns cells old n now
    → LeadsTo (other_values columns cells) old (cond b (others_from cells (n + 1) (drop (n + 1) columns)) (cell_value cells n c.ty ∷ others_from cells (n + 1) (drop (n + 1) columns))) now
others_ahead columns cells old now n c b within at kind h =
    subst (λ (key : Bool). LeadsTo (other_values columns cells) old (cond key (others_from cells (n + 1) (drop (n + 1) columns)) (cell_value cells n c.ty ∷ others_from cells (n + 1) (drop (n + 1) columns))) now)
    kind (subst (λ (cs : List ColumnDef). LeadsTo (other_values columns cells) old (others_from cells n cs) now) (ahead columns n c within at) h)

pub other_skipped : (columns : List ColumnDef) (cells : List ShownCell) (old now next : Literals) (n : ℕ) (c : ColumnDef) → n < length columns → c ≡ get_or columns n c → is_key c.kind ≡ true
    → next ≡ now → OthersLead columns cells old n now → OthersLead columns cells old (n + 1) next
other_skipped columns cells old now next n c within at kind same h =
    subst (λ (l : Literals). OthersLead columns cells old (n + 1) l) (sym same) (others_ahead columns cells old now n c true within at kind h)

pub other_taken : (columns : List ColumnDef) (cells : List ShownCell) (old now next : Literals) (n : ℕ) (c : ColumnDef) → n < length columns → c ≡ get_or columns n c → is_key c.kind ≡ false
    → Extends (cell_value cells n c.ty ∷ []) now next → OthersLead columns cells old n now → OthersLead columns cells old (n + 1) next
other_taken columns cells old now next n c within at kind e h =
    leads_on (other_values columns cells) old now next (cell_value cells n c.ty) (others_from cells (n + 1) (drop (n + 1) columns)) (others_ahead columns cells old now n c false within at kind h) e

pub others_end : (columns : List ColumnDef) (cells : List ShownCell) (old now : Literals) (n : ℕ) → length columns ≤ n → OthersLead columns cells old n now
    → Extends (other_values columns cells) old now
others_end columns cells old now n past h =
    arrives (other_values columns cells) old now
    (subst (λ (cs : List ColumnDef). LeadsTo (other_values columns cells) old (others_from cells n cs) now) (drop_of_length-le columns {i = n} past) h)

-- ---- the clustering columns

-- the values so far, and what is read from what is left behind them
pub record Reaches (columns : List ColumnDef) (row : List ℕ) (old : Literals) (i : ℕ) (rest : List ℕ) (now : Literals) : Type 0 where
  pub so_far : List (Option CqlValue)
  pub goes : GoesOn (AreRead (clustering_columns columns) row) [] so_far (drop i columns) rest
  pub extends : Extends so_far old now

pub read_starts : (columns : List ColumnDef) (row : List ℕ) (old : Literals) → Reaches columns row old 0 row old
read_starts columns row old = record { so_far = []; goes = λ later read. (later, read, refl); extends = stays old }

pub read_skipped : (columns : List ColumnDef) (row : List ℕ) (old now next : Literals) (i : ℕ) (c : ColumnDef) (rest rest' : List ℕ) → i < length columns → c ≡ get_or columns i c
    → is_clustering c.kind ≡ false → next ≡ now → rest' ≡ rest → Reaches columns row old i rest now → Reaches columns row old (i + 1) rest' next
read_skipped columns row old now next i c rest rest' within at kind same left h = record {
  so_far = h.so_far;
  goes = skipped [] h.so_far h.so_far columns i c rest rest' within at kind refl left h.goes;
  extends = subst (Extends h.so_far old) (sym same) h.extends;
}

pub read_taken : (columns : List ColumnDef) (row : List ℕ) (old now next : Literals) (i : ℕ) (c : ColumnDef) (rest rest' : List ℕ) (value : Option CqlValue) (n : ℕ) → i < length columns
    → c ≡ get_or columns i c → is_clustering c.kind ≡ true → IsFrontAs c rest value n → Extends (value ∷ []) now next → rest' ≡ drop n rest → Reaches columns row old i rest now
    → Reaches columns row old (i + 1) rest' next
read_taken columns row old now next i c rest rest' value n within at kind front e left h = record {
  so_far = h.so_far ++ value ∷ [];
  goes = taken [] h.so_far (h.so_far ++ value ∷ []) columns i c rest rest' value n within at kind front refl left h.goes;
  extends = extends_append h.so_far (value ∷ []) old now next h.extends e;
}

pub read_ends : (columns : List ColumnDef) (row : List ℕ) (old now : Literals) (i : ℕ) (rest : List ℕ) → length columns ≤ i → Reaches columns row old i rest now
    → ExtendsBy (AreRead (clustering_columns columns) row) old now
read_ends columns row old now i rest past h =
    let f = finished [] h.so_far columns i rest past h.goes in
    (h.so_far, subst (AreRead (clustering_columns columns) row) (sym f.2) f.1, h.extends)

-- ---- what is shown

none_some : (s : Span) → ◌≡◌ {A = Option Span} None (Some s) → ⊥
none_some s h = absurd (cc)

some_same : (a b : Span) → Some a ≡ Some b → a ≡ b
some_same a b h = cc

pub record IsWithin (span : Span) (len : ℕ) : Type 0 where
  pub order : span.start ≤ span.end
  pub within : span.end ≤ len

regrouped : (bs : List ℕ) (v : Option CqlValue) (vs : List (Option CqlValue)) → bs ++ texts (v ∷ vs) ≡ (bs ++ value_text v) ++ texts vs
regrouped bs v vs = ap (λ (t : List ℕ). bs ++ t) (flat_map-cons value_text v vs) ∙ sym (append_assoc bs (value_text v) (texts vs))

found_within : (bs : List ℕ) (vs : List (Option CqlValue)) (k : ℕ) (s : Span) → slice_get (spans_of (length bs) vs) k ≡ Some s → IsWithin s (length (bs ++ texts vs))
found_within bs [] k s h = absurd (none_some s h)
found_within bs (v ∷ vs) zero s h =
    let t = value_text v in
    let whole = ap length (regrouped bs v vs) ∙ length-append (bs ++ t) (texts vs) in
    let part = length-append bs t in
    subst (λ (x : Span). IsWithin x (length (bs ++ texts (v ∷ vs)))) (some_same (span_at (length bs) (length bs + length t)) s h) (record { order = omega arith; within = omega arith })
found_within bs (v ∷ vs) (suc k) s h =
    let t = value_text v in
    subst (λ (bytes : List ℕ). IsWithin s (length bytes)) (sym (regrouped bs v vs))
    (found_within (bs ++ t) vs k s (ap (λ (n : ℕ). slice_get (spans_of n vs) k) (length-append bs t) ∙ h))

pub is_within : (values : List (Option CqlValue)) (literals : Literals) (k : ℕ) (s : Span) → AreOf values literals → slice_get literals.spans.items k ≡ Some s → IsWithin s (length literals.text.items)
is_within values literals k s are h =
    subst (λ (bytes : List ℕ). IsWithin s (length bytes)) (sym are.text) (found_within [] values k s (ap (λ (ss : List Span). slice_get ss k) (sym are.spans) ∙ h))

lookup : (bs : List ℕ) (vs : List (Option CqlValue)) (k : ℕ) → piece_of (bs ++ texts vs) (slice_get (spans_of (length bs) vs) k) ≡ found_text (slice_get vs k)
lookup bs [] k = refl
lookup bs (v ∷ vs) zero =
    let t = value_text v in
    let len : length bs + length t - length bs ≡ length t = omega arith in
    (λ i. take (len i) (drop (length bs) (bs ++ flat_map-cons value_text v vs i)))
    ∙ ap (λ (bytes : List ℕ). take (length t) bytes) (drop_at bs (t ++ texts vs) (length bs) refl)
    ∙ take_at t (texts vs) (length t) refl
lookup bs (v ∷ vs) (suc k) =
    let t = value_text v in
    (λ i. piece_of (regrouped bs v vs i) (slice_get (spans_of (sym (length-append bs t) i) vs) k)) ∙ lookup (bs ++ t) vs k

found_at : (values : List (Option CqlValue)) (literals : Literals) → AreOf values literals → (k : ℕ) → shown_at literals k ≡ text_at values k
found_at values literals are k = (λ i. piece_of (are.text i) (slice_get (are.spans i) k)) ∙ lookup [] values k

pub shown_is : (values : List (Option CqlValue)) (literals : Literals) → AreOf values literals → (shown : List ℕ) → shown_text literals shown ≡ values_text values shown
shown_is values literals are [] = refl
shown_is values literals are (n ∷ later) =
    let at = found_at values literals are in
    (λ i. at n i ++ flat_map (λ (k : ℕ). codes " | " ++ at k i) later)

-- ---- rows

spans_front : (n : ℕ) (ks vs : List (Option CqlValue)) → take (length ks) (spans_of n (ks ++ vs)) ≡ spans_of n ks
spans_front n [] vs = refl
spans_front n (k ∷ ks) vs = ap (λ (ss : List Span). span_at n (n + length (value_text k)) ∷ ss) (spans_front (n + length (value_text k)) ks vs)

cut_back : (keys : List (Option CqlValue)) (mark : Mark) (old new : Literals) → new.text.items ≡ take mark.text old.text.items → new.spans.items ≡ take mark.spans old.spans.items
    → Begins keys mark old → AreOf keys new
cut_back keys mark old new text spans h = record {
  text = text ∙ (λ i. take (h.text i) ((h.are.text ∙ flat_map-append value_text keys h.later) i)) ∙ take_at (texts keys) (texts h.later) (length (texts keys)) refl;
  spans = spans ∙ (λ i. take (h.spans i) (h.are.spans i)) ∙ spans_front 0 keys h.later;
}

-- the literals of a row, behind those of the key
pub record Row (columns : List ColumnDef) (row : ShownRow) (keys : List (Option CqlValue)) (mark : Mark) (literals : Literals) : Type 0 where
  pub begins : Begins keys mark literals
  pub clustering : List (Option CqlValue)
  pub read : AreRead (clustering_columns columns) row.row clustering
  pub are : AreOf (keys ++ (clustering ++ other_values columns row.cells)) literals

pub row_of : (columns : List ColumnDef) (row : ShownRow) (bytes : List ℕ) (cells : List ShownCell) (keys : List (Option CqlValue)) (mark : Mark) (old cut mid new : Literals) → bytes ≡ row.row → cells ≡ row.cells → cut.text.items ≡ take mark.text old.text.items
    → cut.spans.items ≡ take mark.spans old.spans.items → ExtendsBy (AreRead (clustering_columns columns) bytes) cut mid → Extends (other_values columns cells) mid new
    → Begins keys mark old → Row columns row keys mark new
row_of columns row bytes cells keys mark old cut mid new row_is cells_is text spans (clustering, read, first) second h =
    let later : Extends (other_values columns row.cells) mid new = subst (λ (cs : List ShownCell). Extends (other_values columns cs) mid new) cells_is second in
    let are = extends_append clustering (other_values columns row.cells) cut mid new first later keys (cut_back keys mark old cut text spans h) in
    record {
      begins = record { later = clustering ++ other_values columns row.cells; are = are; text = h.text; spans = h.spans };
      clustering = clustering;
      read = subst (λ (bs : List ℕ). AreRead (clustering_columns columns) bs clustering) row_is read;
      are = are;
    }

pub line_of : (columns : List ColumnDef) (row : ShownRow) (shown : List ℕ) (keys : List (Option CqlValue)) (mark : Mark) (literals : Literals) (out a b c : List ℕ)
    → a ≡ out ++ 32 ∷ [] → b ≡ a ++ shown_text literals shown → c ≡ b ++ 10 ∷ [] → Row columns row keys mark literals → HasLine columns row shown keys mark out literals c
line_of columns row shown keys mark literals out a b c space values ended r =
    let all = keys ++ (r.clustering ++ other_values columns row.cells) in
    let text = values_text all shown in
    record {
      begins = r.begins;
      clustering = r.clustering;
      read = r.read;
      printed = ended ∙ ap (λ (o : List ℕ). o ++ 10 ∷ []) (values ∙ (λ i. space i ++ shown_is all literals r.are shown i) ∙ append_assoc out (32 ∷ []) text) ∙ append_assoc out (32 ∷ text) (10 ∷ []);
    }

-- ---- all rows

-- the lines of these rows were printed behind what was there
pub record ArePrinted (columns : List ColumnDef) (key shown : List ℕ) (mark : Mark) (before : List ℕ) (rows : List ShownRow) (literals : Literals) (out : List ℕ) : Type 0 where
  pub begins : Begins (key_values columns key) mark literals
  pub lines : List ℕ
  pub are : AreLines (IsLine columns key shown) rows lines
  pub behind : out ≡ before ++ lines

pub none_printed : (columns : List ColumnDef) (key shown : List ℕ) (mark : Mark) (before : List ℕ) (empty literals : Literals) → empty.text.items ≡ [] → empty.spans.items ≡ []
    → Extends (key_values columns key) empty literals → mark.text ≡ length literals.text.items → mark.spans ≡ length literals.spans.items
    → ArePrinted columns key shown mark before [] literals before
none_printed columns key shown mark before empty literals text spans e at count =
    let keys = key_values columns key in
    let are : AreOf keys literals = e [] (record { text = text; spans = spans }) in
    record {
      begins = record {
        later = [];
        are = subst (λ (vs : List (Option CqlValue)). AreOf vs literals) (sym (append-nil keys)) are;
        text = at ∙ ap length are.text;
        spans = count ∙ ap length are.spans ∙ spans_len 0 keys;
      };
      lines = [];
      are = refl;
      behind = sym (append-nil before);
    }
  where
    spans_len : (n : ℕ) (vs : List (Option CqlValue)) → length (spans_of n vs) ≡ length vs
    spans_len n [] = refl
    spans_len n (v ∷ vs) = let later = spans_len (n + length (value_text v)) vs in omega arith

lines_more : (IsOne : ShownRow → List ℕ → Type 0) (rows : List ShownRow) (row : ShownRow) (lines line : List ℕ) → AreLines IsOne rows lines → IsOne row line
    → AreLines IsOne (rows ++ row ∷ []) (lines ++ line)
lines_more IsOne [] row lines line are is = (line, [], is, refl, ap (λ (ls : List ℕ). ls ++ line) are ∙ sym (append-nil line))
lines_more IsOne (x ∷ rows) row lines line (first, later, one, rest, whole) is =
    (first, later ++ line, one, lines_more IsOne rows row later line rest is, ap (λ (ls : List ℕ). ls ++ line) whole ∙ append_assoc first later line)

pub one_printed : (columns : List ColumnDef) (key shown : List ℕ) (mark : Mark) (before : List ℕ) (rows : List ShownRow) (row : ShownRow) (literals literals' : Literals) (out out' : List ℕ)
    → ArePrinted columns key shown mark before rows literals out → HasLine columns row shown (key_values columns key) mark out literals' out'
    → ArePrinted columns key shown mark before (rows ++ row ∷ []) literals' out'
one_printed columns key shown mark before rows row literals literals' out out' h l =
    let values = key_values columns key ++ (l.clustering ++ other_values columns row.cells) in
    let line = 32 ∷ values_text values shown ++ 10 ∷ [] in
    record {
      begins = l.begins;
      lines = h.lines ++ line;
      are = lines_more (IsLine columns key shown) rows row h.lines line h.are (values, record { clustering = l.clustering; read = l.read; all = refl }, refl);
      behind = l.printed ∙ ap (λ (o : List ℕ). o ++ line) h.behind ∙ append_assoc before h.lines line;
    }

-- one item more
pub rows_more : (rows : List ShownRow) (i : ℕ) (row : ShownRow) → i < length rows → row ≡ get_or rows i row → take (i + 1) rows ≡ take i rows ++ row ∷ []
rows_more rows i row within at = take_more rows i row within ∙ (λ k. take i rows ++ sym at k ∷ [])
