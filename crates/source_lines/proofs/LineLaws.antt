-- A line that is read byte by byte.
use Rattle.std.proofs.Common.{◌≡◌, ℕ, zero, suc, Bool, true, false, not, ◌==◌, List, [], ◌∷◌, ◌++◌, length, take, Option, Some, None, IfSome, refl, sym, ◌∙◌, ap, subst, cond, arith, append_assoc, append-nil, length-append, ◌<◌}
use Rattle.std.proofs.lemmas.List.{take_all, take-append-le}
use Rattle.std.proofs.lemmas.Bool.{ne_eqb}
use Rattle.source_lines.specs.Lines.{GivesByte, first_line, behind_line, told, is_some_left, GivesLine, LosesPart}

-- this part of the first line was read
pub record IsInLine (left line : List ℕ) (left' : Option (List ℕ)) : Type 0 where
  pub loses : LosesPart left line left'
  pub behind : behind_line left ≡ behind_line loses.rest

pub line_starts : (o : Option (List ℕ)) (line : List ℕ) → line ≡ [] → IfSome o (λ left. IsInLine left line o)
line_starts None line e = tt
line_starts (Some left) line e = record {
  loses = record { part = []; rest = left; remaining = refl; whole = refl; inside = refl; line_is = e };
  behind = refl;
}

-- a byte that ends no line
plain_first : (b : ℕ) (rest : List ℕ) → (b == 10) ≡ false → first_line (b ∷ rest) ≡ b ∷ first_line rest
plain_first b rest e = ap (λ (t : Bool). cond t [] (b ∷ first_line rest)) e

plain_behind : (b : ℕ) (rest : List ℕ) → (b == 10) ≡ false → behind_line (b ∷ rest) ≡ behind_line rest
plain_behind b rest e = ap (λ (t : Bool). cond t rest (behind_line rest)) e

feed_first : (b : ℕ) (rest : List ℕ) → (b == 10) ≡ true → first_line (b ∷ rest) ≡ []
feed_first b rest e = ap (λ (t : Bool). cond t [] (b ∷ first_line rest)) e

feed_behind : (b : ℕ) (rest : List ℕ) → (b == 10) ≡ true → behind_line (b ∷ rest) ≡ rest
feed_behind b rest e = ap (λ (t : Bool). cond t rest (behind_line rest)) e

-- what is told of a part that has told as much already
take_again : (n : ℕ) (part more : List ℕ) → take n (take n part ++ more) ≡ take n (part ++ more)
take_again zero part more = refl
take_again (suc n) [] more = refl
take_again (suc n) (b ∷ bs) more = ap (λ (l : List ℕ). b ∷ l) (take_again n bs more)

-- a byte more
plain_more : (left line rest : List ℕ) (b : ℕ) (left' mid : Option (List ℕ)) (h : IsInLine left line mid) → (b == 10) ≡ false → h.loses.rest ≡ b ∷ rest → left' ≡ Some rest
    → IsInLine left (told (line ++ b ∷ [])) left'
plain_more left line rest b left' mid h plain is remaining =
    let part = h.loses.part in
    record {
      loses = record {
        part = part ++ b ∷ [];
        rest = rest;
        remaining = remaining;
        whole = h.loses.whole ∙ ap (λ (r : List ℕ). part ++ r) is ∙ sym (append_assoc part (b ∷ []) rest);
        inside =
            h.loses.inside ∙ ap (λ (r : List ℕ). part ++ first_line r) is ∙ ap (λ (r : List ℕ). part ++ r) (plain_first b rest plain)
            ∙ sym (append_assoc part (b ∷ []) (first_line rest));
        line_is = ap (λ (l : List ℕ). told (l ++ b ∷ [])) h.loses.line_is ∙ take_again 4097 part (b ∷ []);
      };
      behind = h.behind ∙ ap behind_line is ∙ plain_behind b rest plain;
    }

some_behind : (part rest : List ℕ) (b : ℕ) → true ≡ is_some_left (part ++ b ∷ rest)
some_behind [] rest b = refl
some_behind (a ∷ part) rest b = refl

-- the line feed
feed_found : (left line rest : List ℕ) (b : ℕ) (left' mid : Option (List ℕ)) (h : IsInLine left line mid) → (b == 10) ≡ true → h.loses.rest ≡ b ∷ rest → left' ≡ Some rest
    → GivesLine true left line left'
feed_found left line rest b left' mid h feed is remaining =
    let part = h.loses.part in
    record {
      found_is = some_behind part rest b ∙ ap is_some_left (sym (h.loses.whole ∙ ap (λ (r : List ℕ). part ++ r) is));
      line_is =
          h.loses.line_is
          ∙ ap told (sym (h.loses.inside ∙ ap (λ (r : List ℕ). part ++ first_line r) is ∙ ap (λ (r : List ℕ). part ++ r) (feed_first b rest feed) ∙ append-nil part));
      rest_is = remaining ∙ ap (λ (r : List ℕ). Some r) (sym (h.behind ∙ ap behind_line is ∙ feed_behind b rest feed));
    }

some_taken : (n b : ℕ) (part : List ℕ) → not (length (take (suc n) (b ∷ part)) == 0) ≡ true
some_taken n b part = ap not (ne_eqb (length (b ∷ take n part)) 0 (λ e. absurd (omega arith)))

some_told : (part : List ℕ) → not (length (told part) == 0) ≡ is_some_left part
some_told [] = refl
some_told (b ∷ part) = some_taken 4096 b part

-- the end of the source
end_found : (left line : List ℕ) (found : Bool) (left' mid : Option (List ℕ)) (h : IsInLine left line mid) → found ≡ not (length line == 0) → h.loses.rest ≡ [] → left' ≡ Some []
    → GivesLine found left line left'
end_found left line found left' mid h found_is is remaining =
    let part = h.loses.part in
    let whole : left ≡ part = h.loses.whole ∙ ap (λ (r : List ℕ). part ++ r) is ∙ append-nil part in
    let inside : first_line left ≡ part = h.loses.inside ∙ ap (λ (r : List ℕ). part ++ first_line r) is ∙ append-nil part in
    record {
      found_is = found_is ∙ ap (λ (l : List ℕ). not (length l == 0)) h.loses.line_is ∙ some_told part ∙ ap is_some_left (sym whole);
      line_is = h.loses.line_is ∙ ap told (sym inside);
      rest_is = remaining ∙ ap (λ (r : List ℕ). Some r) (sym (h.behind ∙ ap behind_line is));
    }

-- ---- what is kept of a line

pub kept_short : (line now : List ℕ) (b : ℕ) → length line < 4097 → now ≡ line ++ b ∷ [] → now ≡ told (line ++ b ∷ [])
kept_short line now b short is = is ∙ sym (take_all 4097 (line ++ b ∷ []) (omega (arith, length-append line (b ∷ []))))

pub kept_full : (line : List ℕ) (b : ℕ) → length line ≡ 4097 → line ≡ told (line ++ b ∷ [])
kept_full line b full = sym (take-append-le 4097 line (b ∷ []) (omega arith) ∙ take_all 4097 line (omega arith))

-- ---- the same, where the source may tell nothing

in_line : (left line : List ℕ) (mid : Option (List ℕ)) (result : Option ℕ) (left' : Option (List ℕ)) (h : IsInLine left line mid) → IfSome mid (λ rest. GivesByte result rest left')
    → GivesByte result h.loses.rest left'
in_line left line mid result left' h g = subst (λ (o : Option (List ℕ)). IfSome o (λ rest. GivesByte result rest left')) h.loses.remaining g

line_more : (o mid left' : Option (List ℕ)) (line : List ℕ) (b : ℕ) → (b == 10) ≡ false → IfSome o (λ left. IsInLine left line mid) → IfSome mid (λ rest. GivesByte (Some b) rest left')
    → IfSome o (λ left. IsInLine left (told (line ++ b ∷ [])) left')
line_more None mid left' line b plain h g = tt
line_more (Some left) mid left' line b plain h g =
    let gives = in_line left line mid (Some b) left' h g in
    plain_more left line gives.0 b left' mid h plain gives.1 gives.2

pub line_kept : (o mid left' : Option (List ℕ)) (line now : List ℕ) (found : Option ℕ) (b : ℕ) → (b ≡ 10 → ⊥) → found ≡ Some b → now ≡ told (line ++ b ∷ []) → IfSome o (λ left. IsInLine left line mid)
    → IfSome mid (λ rest. GivesByte found rest left') → IfSome o (λ left. IsInLine left now left')
line_kept o mid left' line now found b plain is kept h g =
    let P : List ℕ → Type 0 = λ l. IfSome o (λ left. IsInLine left l left') in
    let Q : Option ℕ → Type 0 = λ f. IfSome mid (λ rest. GivesByte f rest left') in
    subst P (sym kept) (line_more o mid left' line b (ne_eqb b 10 plain) h (subst Q is g))

pub line_fed : (o mid left' : Option (List ℕ)) (line : List ℕ) (b : ℕ) → (b == 10) ≡ true → IfSome o (λ left. IsInLine left line mid) → IfSome mid (λ rest. GivesByte (Some b) rest left')
    → IfSome o (λ left. GivesLine true left line left')
line_fed None mid left' line b feed h g = tt
line_fed (Some left) mid left' line b feed h g =
    let gives = in_line left line mid (Some b) left' h g in
    feed_found left line gives.0 b left' mid h feed gives.1 gives.2

pub line_ended : (o mid left' : Option (List ℕ)) (line : List ℕ) (found : Bool) → found ≡ not (length line == 0) → IfSome o (λ left. IsInLine left line mid) → IfSome mid (λ rest. GivesByte None rest left')
    → IfSome o (λ left. GivesLine found left line left')
line_ended None mid left' line found is h g = tt
line_ended (Some left) mid left' line found is h g =
    let gives = in_line left line mid None left' h g in
    end_found left line found left' mid h is gives.0 gives.1

lost_here : (left line : List ℕ) (mid left' : Option (List ℕ)) (h : LosesPart left line mid) → left' ≡ mid → LosesPart left line left'
lost_here left line mid left' h e = record { part = h.part; rest = h.rest; remaining = e ∙ h.remaining; whole = h.whole; inside = h.inside; line_is = h.line_is }

pub line_lost : (o mid left' : Option (List ℕ)) (line : List ℕ) → left' ≡ mid → IfSome o (λ left. IsInLine left line mid) → IfSome o (λ left. LosesPart left line left')
line_lost None mid left' line e h = tt
line_lost (Some left) mid left' line e h = lost_here left line mid left' h.loses e
