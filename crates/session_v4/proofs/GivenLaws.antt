-- Values by their names, one after another.
use Rattle.std.proofs.Common.{◌≡◌, ℕ, List, [], ◌∷◌, ◌++◌, Bool, cond, Option, Some, None, refl, sym, ◌∙◌, ap}
use Rattle.std.specs.Map.{update}
use Rattle.std.specs.Prelude.{if◌then◌else◌}
use Rattle.std.specs.Str.{bytes_eq}
use Rattle.std.proofs.lemmas.Bool.Decides.{same_from_decides}
use Rattle.std.proofs.lemmas.Slice.Eq.{bytes_eq-Decides}
use Rattle.request_bodies.specs.declared.parameters.NamedValue.{NamedValue}
use Rattle.statement_values.specs.declared.params.Param.{Param}
use Rattle.session_v4.specs.Given.{param_of, value_named}

pub value_named-append : (before : Option Param) (vs : List NamedValue) (v : NamedValue) (name : List ℕ)
    → value_named before (vs ++ v ∷ []) name ≡ (if bytes_eq name v.name then Some (param_of v.value) else value_named before vs name)
value_named-append before [] v name = refl
value_named-append before (u ∷ us) v name = value_named-append (if bytes_eq name u.name then Some (param_of u.value) else before) us v name

bytes_eq-sym : (xs ys : List ℕ) → bytes_eq xs ys ≡ bytes_eq ys xs
bytes_eq-sym xs ys =
    same_from_decides (bytes_eq xs ys) (bytes_eq ys xs) (bytes_eq-Decides xs ys)
    (λ e. sym ((bytes_eq-Decides ys xs).0 e), λ e. (bytes_eq-Decides ys xs).1 (sym e))

-- one value more
pub named_more : (f g : List ℕ → Option Param) (bytes : List ℕ) (vs : List NamedValue) (v : NamedValue) (p : Param) → bytes ≡ v.name → p ≡ param_of v.value
    → ((name : List ℕ) → f name ≡ value_named None vs name) → ((name : List ℕ) → g name ≡ update bytes_eq f bytes (Some p) name)
    → (name : List ℕ) → g name ≡ value_named None (vs ++ v ∷ []) name
named_more f g bytes vs v p same is known puts name =
    puts name
    ∙ (ap (λ (b : Bool). cond b (Some p) (f name)) (ap (λ (ns : List ℕ). bytes_eq ns name) same ∙ bytes_eq-sym v.name name)
    ∙ (ap (λ (q : Param). cond (bytes_eq name v.name) (Some q) (f name)) is
    ∙ (ap (λ (o : Option Param). cond (bytes_eq name v.name) (Some (param_of v.value)) o) (known name)
    ∙ sym (value_named-append None vs v name))))
