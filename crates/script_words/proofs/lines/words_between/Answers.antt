use Rattle.std.proofs.Common.{◌≡◌, ◌<◌, ℕ, List, get_or, length, ap, sym, subst, ◌∙◌, arith, Bor, Vec, Global}
use Rattle.script_words.specs.Texts.{texts_of}
use Rattle.script_words.proofs.WordSplits.{FoundTo, none_found, past_space, past_other, last_word}
use Rattle.script_words.proofs.lines.words_between.Goals.{then-bytes-at-eq32+in_ok-push_word, else-bytes-at-eq32}
use Rattle.script_words.proofs.lines.words_between.Goals as goal

pub loop-at-init : goal.loop-at-init
loop-at-init c = none_found c.args.text.now (texts_of c.in_ok-words.words.items) c.utf8.text (ap texts_of c.in_ok-words.ensures.items)

pub loop-at-preserved : goal.loop-at-preserved
loop-at-preserved c =
    let text = c.args.text.now in
    let at = c.loop-at.at in
    let same = c.as_bytes-bytes.ensures.value in
    let inside : at < length text = let in_bytes = c.loop-at-test.true in let long = c.as_bytes-bytes.ensures.len in omega (arith, in_bytes, long) in
    elim c.if-bytes-at-eq32.branch [
      | then-bytes-at-eq32+in_ok-push_word w ↦
          past_space text w.range.result.now (texts_of c.loop-at.words.items) (texts_of c.if-bytes-at-eq32.words.items) c.loop-at.begin at c.if-bytes-at-eq32.begin c.utf8.text inside
          (ap (λ (bytes : List ℕ). get_or bytes at 0) (sym same) ∙ w.if-bytes-at-eq32.true) w.range.ensures.value
          (ap (λ (words : Vec (Bor (List ℕ)) Global). texts_of words.items) w.words-is ∙ w.in_ok-push_word.ensures) w.begin-is c.loop-at.invariant
      | else-bytes-at-eq32 w ↦
          past_other text (texts_of c.loop-at.words.items) (texts_of c.if-bytes-at-eq32.words.items) c.loop-at.begin at c.if-bytes-at-eq32.begin
          (λ space. w.if-bytes-at-eq32.false (ap (λ (bytes : List ℕ). get_or bytes at 0) same ∙ space))
          (ap (λ (words : Vec (Bor (List ℕ)) Global). texts_of words.items) w.words-is) w.begin-is c.loop-at.invariant
    ]

pub returns : goal.returns
returns c =
    let text = c.args.text.now in
    let words = texts_of c.loop-at.words.items in
    let end : c.loop-at.at ≡ length text = let low = c.loop-at-test.false in let high = c.loop-at.auto.at-end in let long = c.as_bytes-bytes.ensures.len in omega (arith, low, high, long) in
    last_word text c.range_from.result.now words (texts_of c.push_word-2.new.words.items) c.loop-at.begin c.range_from.ensures.value c.in_ok-push_word-2.ensures
    (subst (λ (at : ℕ). FoundTo text words c.loop-at.begin at) end c.loop-at.invariant)
