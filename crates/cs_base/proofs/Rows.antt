-- The definitions of the ring at worked rows: three nodes with the tokens 0, 3 and -3 (times 10 ^ 18), and leaves.
use Rattle.std.proofs.Common.{◌≡◌, refl, ℤ, pos, negsuc, List, [], ◌∷◌, true}
use Rattle.cs_base.specs.declared.range.Range.{Range}
use Rattle.cs_base.specs.Ring.{replicas_at, in_range, width, leaf_of}

abbrev ring : List ℤ
ring = pos 0 ∷ pos 3000000000000000000 ∷ negsuc 2999999999999999999 ∷ []

-- node 2 owns what is below its token and above the greatest one, and node 0 comes next
below_all : replicas_at ring 2 (negsuc 4069959284402364208) ≡ 0 ∷ 2 ∷ []
below_all = refl

above_all : replicas_at ring 1 (pos 3000000000000000001) ≡ 2 ∷ []
above_all = refl

at_a_token : replicas_at ring 2 (pos 0) ≡ 0 ∷ 1 ∷ []
at_a_token = refl

every_node : replicas_at ring 3 (pos 1) ≡ 0 ∷ 1 ∷ 2 ∷ []
every_node = refl

abbrev range : ℤ → ℤ → Range
range after upto = record { after = after; upto = upto }

whole : width (range (pos 7) (pos 7)) ≡ 18446744073709551616
whole = refl

past_the_greatest : in_range (range (pos 3000000000000000000) (negsuc 2999999999999999999)) (negsuc 9223372036854775807) ≡ true
past_the_greatest = refl

-- two tokens to each leaf; of the whole ring the last token is the one at the ends
first_leaf : leaf_of (range (pos 0) (pos 512)) (pos 2) ≡ 0
first_leaf = refl

second_leaf : leaf_of (range (pos 0) (pos 512)) (pos 3) ≡ 1
second_leaf = refl

last_leaf : leaf_of (range (pos 0) (pos 512)) (pos 512) ≡ 255
last_leaf = refl

last_of_the_whole : leaf_of (range (pos 7) (pos 7)) (pos 7) ≡ 255
last_of_the_whole = refl

first_of_the_whole : leaf_of (range (pos 7) (pos 7)) (pos 8) ≡ 0
first_of_the_whole = refl
