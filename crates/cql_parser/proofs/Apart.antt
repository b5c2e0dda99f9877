-- Tokens of which none is both.
use Rattle.std.proofs.Common.{◌≡◌, ◌⊎◌, inl, inr, ℕ, Bool, true, false, not, ◌&&◌, ◌||◌, eq-eqb, List, [], ◌∷◌, map, sym, ap, ◌∙◌}
use Rattle.std.specs.List.{list_any}
use Rattle.std.specs.Str.{bytes_eq}
use Rattle.std.specs.Char.{to_ascii_lowercase}
use Rattle.std.proofs.lemmas.Bool.{eqb-true}
use Rattle.std.proofs.lemmas.Slice.Eq.{bytes_eq-Decides}
use Rattle.cql_tokens.specs.Tokens.{Meaning}
use Rattle.cql_tokens.specs.declared.token.TokenKind.{TokenKind}
use Rattle.cql_tokens.specs.declared.token.TokenKind.TheVariants as kinds
use Rattle.cql_parser.specs.Forms.{Terminal, accepts, is_kind, number_of, same_word, is_among, reserved, is_name, is_word}
use Rattle.cql_parser.specs.Forms.Terminal.{Word, Symbol, Name, NameBut, TypeWord}
use Rattle.cql_parser.specs.Reading.{starts}
use Rattle.cql_parser.proofs.Heads.{either, both_left, both_right, is_false, not_both, sure, starts_cons, starts_nothing}
use Rattle.cql_parser.proofs.Rules.{follows}

abbrev no_name_kind : TokenKind → Bool
no_name_kind k = not (is_kind k kinds.Word) && not (is_kind k kinds.QuotedName)

-- whether no token is both, as far as the grammar needs it
abbrev pub apart : Terminal → Terminal → Bool
apart (Word w) (Word v) = not (same_word w v)
apart (Word w) (Symbol k) = not (is_kind kinds.Word k)
apart (Word w) Name = is_among w reserved
apart (Word w) (NameBut v) = is_among w reserved || same_word w v
apart (Word w) TypeWord = false
apart (Symbol k) (Word w) = not (is_kind k kinds.Word)
apart (Symbol k) (Symbol j) = not (is_kind k j)
apart (Symbol k) Name = no_name_kind k
apart (Symbol k) (NameBut v) = no_name_kind k
apart (Symbol k) TypeWord = false
apart Name (Word w) = is_among w reserved
apart Name (Symbol k) = no_name_kind k
apart Name Name = false
apart Name (NameBut v) = false
apart Name TypeWord = false
apart (NameBut v) b = false
apart TypeWord b = false

kinds_agree : (a k j : TokenKind) → is_kind a k ≡ true → is_kind a j ≡ true → is_kind k j ≡ true
kinds_agree a k j e f = eq-eqb (number_of k) (number_of j) (sym (eqb-true _ _ e) ∙ eqb-true _ _ f)

same_lower : (x w : List ℕ) → same_word x w ≡ true → map to_ascii_lowercase x ≡ map to_ascii_lowercase w
same_lower x w e = (bytes_eq-Decides _ _).0 e

words_agree : (x w v : List ℕ) → same_word x w ≡ true → same_word x v ≡ true → same_word w v ≡ true
words_agree x w v e f = ap (λ (l : List ℕ). bytes_eq l (map to_ascii_lowercase v)) (sym (same_lower x w e)) ∙ f

among_agrees : (x w : List ℕ) (words : List (List ℕ)) → same_word x w ≡ true → is_among w words ≡ true → is_among x words ≡ true
among_agrees x w words e f = ap (λ (l : List ℕ). list_any (λ v. bytes_eq l (map to_ascii_lowercase v)) words) (same_lower x w e) ∙ f

-- a word that is a name isn't reserved
name_word : (t : Meaning) → is_kind t.kind kinds.Word ≡ true → is_name t ≡ true → is_among t.word reserved ≡ false
name_word t k n = go (either _ _ n)
  where
    go : (is_kind t.kind kinds.QuotedName ≡ true) ⊎ ((is_kind t.kind kinds.Word && not (is_among t.word reserved)) ≡ true) → is_among t.word reserved ≡ false
    go (inl q) = absurd (cc (kinds_agree t.kind kinds.QuotedName kinds.Word q k))
    go (inr r) = is_false _ (both_right _ _ r)

-- a name's kind
name_kind : (t : Meaning) (k : TokenKind) → is_name t ≡ true → is_kind t.kind k ≡ true → no_name_kind k ≡ true → ⊥
name_kind t k n e free = go (either _ _ n)
  where
    go : (is_kind t.kind kinds.QuotedName ≡ true) ⊎ ((is_kind t.kind kinds.Word && not (is_among t.word reserved)) ≡ true) → ⊥
    go (inl q) = not_both _ (kinds_agree t.kind k kinds.QuotedName e q) (is_false _ (both_right _ _ free))
    go (inr r) = not_both _ (kinds_agree t.kind k kinds.Word e (both_left _ _ r)) (is_false _ (both_left _ _ free))

no_reserved_name : (t : Meaning) (w : List ℕ) → is_word t w ≡ true → is_name t ≡ true → is_among w reserved ≡ true → ⊥
no_reserved_name t w is n r = not_both _ (among_agrees t.word w reserved (both_right _ _ is) r) (name_word t (both_left _ _ is) n)

pub apart_tokens : (a b : Terminal) (t : Meaning) → apart a b ≡ true → accepts a t ≡ true → accepts b t ≡ true → ⊥
apart_tokens (Word w) (Word v) t p e f = not_both _ (words_agree t.word w v (both_right _ _ e) (both_right _ _ f)) (is_false _ p)
apart_tokens (Word w) (Symbol k) t p e f = not_both _ (kinds_agree t.kind kinds.Word k (both_left _ _ e) f) (is_false _ p)
apart_tokens (Word w) Name t p e f = no_reserved_name t w e f p
apart_tokens (Word w) (NameBut v) t p e f = go (either _ _ p)
  where
    go : (is_among w reserved ≡ true) ⊎ (same_word w v ≡ true) → ⊥
    go (inl r) = no_reserved_name t w e (both_left _ _ f) r
    go (inr s) = not_both (is_word t v) (both (both_left _ _ e) (ap (λ (l : List ℕ). bytes_eq l (map to_ascii_lowercase v)) (same_lower t.word w (both_right _ _ e)) ∙ s)) (is_false _ (both_right _ _ f))
      where
        both : {a b : Bool} → a ≡ true → b ≡ true → (a && b) ≡ true
        both {a} {b} g h = ap (λ (x : Bool). x && b) g ∙ h
apart_tokens (Word w) TypeWord t p e f = absurd (cc p)
apart_tokens (Symbol k) (Word w) t p e f = not_both _ (kinds_agree t.kind k kinds.Word e (both_left _ _ f)) (is_false _ p)
apart_tokens (Symbol k) (Symbol j) t p e f = not_both _ (kinds_agree t.kind k j e f) (is_false _ p)
apart_tokens (Symbol k) Name t p e f = name_kind t k f e p
apart_tokens (Symbol k) (NameBut v) t p e f = name_kind t k (both_left _ _ f) e p
apart_tokens (Symbol k) TypeWord t p e f = absurd (cc p)
apart_tokens Name (Word w) t p e f = no_reserved_name t w f e p
apart_tokens Name (Symbol k) t p e f = name_kind t k e f p
apart_tokens Name Name t p e f = absurd (cc p)
apart_tokens Name (NameBut v) t p e f = absurd (cc p)
apart_tokens Name TypeWord t p e f = absurd (cc p)
apart_tokens (NameBut v) b t p e f = absurd (cc p)
apart_tokens TypeWord b t p e f = absurd (cc p)

abbrev pub apart_from : Terminal → List Terminal → Bool
apart_from a [] = true
apart_from a (b ∷ bs) = apart a b && apart_from a bs

abbrev pub all_apart : List Terminal → List Terminal → Bool
all_apart [] bs = true
all_apart (a ∷ rest) bs = apart_from a bs && all_apart rest bs

one_apart : (a : Terminal) (bs : List Terminal) (t : Meaning) (ts : List Meaning) → apart_from a bs ≡ true → accepts a t ≡ true → starts bs (t ∷ ts) ≡ true → ⊥
one_apart a [] t ts p e f = cc
one_apart a (b ∷ bs) t ts p e f = go (either (accepts b t) (starts bs (t ∷ ts)) (sym (starts_cons b bs (t ∷ ts)) ∙ f)) (λ h. one_apart a bs t ts (both_right _ _ p) e h)
  where
    go : (accepts b t ≡ true) ⊎ (starts bs (t ∷ ts) ≡ true) → (starts bs (t ∷ ts) ≡ true → ⊥) → ⊥
    go (inl h) later = apart_tokens a b t (both_left _ _ p) e h
    go (inr h) later = later h

pub lists_apart : (xs ys : List Terminal) (t : Meaning) (ts : List Meaning) → all_apart xs ys ≡ true → starts xs (t ∷ ts) ≡ true → starts ys (t ∷ ts) ≡ true → ⊥
lists_apart [] ys t ts p e f = cc
lists_apart (x ∷ xs) ys t ts p e f = go (either (accepts x t) (starts xs (t ∷ ts)) (sym (starts_cons x xs (t ∷ ts)) ∙ e)) (λ h. lists_apart xs ys t ts (both_right _ _ p) h f)
  where
    go : (accepts x t ≡ true) ⊎ (starts xs (t ∷ ts) ≡ true) → (starts xs (t ∷ ts) ≡ true → ⊥) → ⊥
    go (inl h) later = one_apart x ys t ts (both_left _ _ p) h f
    go (inr h) later = later h

-- what may follow begins nothing
pub no_start : (xs ys : List Terminal) (ts : List Meaning) → all_apart xs ys ≡ true → follows ys ts ≡ true → starts xs ts ≡ false
no_start xs ys [] p f = starts_nothing xs
no_start xs ys (t ∷ ts) p f = sure _ (λ e. lists_apart xs ys t ts p e f)
