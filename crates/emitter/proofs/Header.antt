-- The header: start flow, its negation, and the named signals by rising number. Assumes nothing.
use mathlib.Core.Bool.{Bool, true, false, cond}
use mathlib.Core.List.{List, [], ◌∷◌, ◌++◌, append_assoc}
use mathlib.Core.Path.{◌≡◌, refl, sym, ap, ◌∙◌}
use Prim.Native.Nat.{ℕ, suc, ◌+◌, ◌-◌, ◌≤◌, ◌<◌}
use native.Mathlib.Nat.{add-zero, add-suc, suc-add}
use native.Mathlib.Numerals.{add-one}
use native.Mathlib.Omega.{arith}
use lib.ListN.{length, length-append}
use lib.Seq.{get_or_at, set_at}
use Rattle.lists.specs.Number.{number_at}
use Rattle.traces.specs.Trace.{nonzero}
use Rattle.tables.specs.Kind.{SIGNAL, START, NOT}
use Rattle.limits.specs.Limits.{signal_count}
use Rattle.tables.specs.Table.{equation}
use Rattle.scheme.specs.Emit.{place_after, signals-es, places, start_flow, negated_flow, header_count, start-es}
use Rattle.emitter.specs.Machine.{with_equations, Header, header_of, with_signal, settle}
use Rattle.emitter.specs.Contract.{Headed}
use Rattle.emitter.proofs.Equations.{equations-append}

-- The start flow and its negation, one after the other.
pub starts-are : (t : List ℕ) {t₁ t₂ : List ℕ} → t₁ ≡ with_equations t start_flow (equation START 0 0 0 ∷ [])
    → t₂ ≡ with_equations t₁ negated_flow (equation NOT start_flow 0 0 ∷ []) → t₂ ≡ with_equations t 0 start-es
starts-are t e₁ e₂ =
    rw (e₂, e₁, equations-append (equation START 0 0 0 ∷ []) (equation NOT start_flow 0 0 ∷ []) t start_flow)

-- ---- one signal

-- It adds one equation at most.
signal-near : (j : ℕ) (h : Header) → (with_signal j h).next ≤ h.next + 1
unfolding with_signal
signal-near j h = at_most (nonzero (number_at h.places j))
  where
    at_most : (b : Bool) → cond b (suc h.next) h.next ≤ h.next + 1
    at_most true = omega arith
    at_most false = omega arith

-- ---- the loop of `settle_all`: j of the m signals are done

pub record Settling (m : ℕ) (t₀ named₀ : List ℕ) (o₀ : ℕ) (t named : List ℕ) (o j : ℕ) : Type 0 where
  pub few : o ≤ o₀ + j
  pub left : settle (m - j) j (header_of t named o) ≡ settle m 0 (header_of t₀ named₀ o₀)

pub settling-one : {m : ℕ} {t₀ named₀ : List ℕ} {o₀ : ℕ} {t named : List ℕ} {o j : ℕ} {t' named' : List ℕ} {o' : ℕ}
    → Settling m t₀ named₀ o₀ t named o j → j < m → header_of t' named' o' ≡ with_signal j (header_of t named o)
    → Settling m t₀ named₀ o₀ t' named' o' (j + 1)
unfolding settle
settling-one {m} {t = t} {named} {o} {j} {o' = o'} e h d =
    let next : o' ≡ (with_signal j (header_of t named o)).next = ap (λ (x : Header). x.next) d in
    let near : (with_signal j (header_of t named o)).next ≤ o + 1 = signal-near j (header_of t named o) in
    let one : m - j ≡ suc (m - (j + 1)) = omega arith in
    record {
      few = omega arith;
      left = ap (settle (m - (j + 1)) (j + 1)) d ∙ rw (add-one j) (rw (one, add-one j) at e.left);
    }

pub settling-all : {t named t₀ t' named' : List ℕ} {o j : ℕ} → t₀ ≡ with_equations t 0 start-es
    → Settling signal_count t₀ named header_count t' named' o j → j ≡ signal_count → Headed t named t' named' o
unfolding settle
settling-all {named = named} {j = j} e-t e h =
    let none : signal_count - j ≡ 0 = omega arith in
    record {
      stands = rw none at e.left ∙ ap (λ (l : List ℕ). settle signal_count 0 (header_of l named header_count)) e-t;
      few = omega arith;
    }

-- ---- the marks of ν give way to its places, and its signals' equations are in the table

-- Signal j, whose mark is x.
signal-at : (done : List ℕ) (x : ℕ) (rest t : List ℕ) (o j : ℕ) → length done ≡ j →
    with_signal j (header_of t (done ++ (x ∷ rest)) o)
    ≡ header_of (cond (nonzero x) (with_equations t o (equation SIGNAL j 0 0 ∷ [])) t) ((done ++ (o ∷ [])) ++ rest)
    (cond (nonzero x) (suc o) o)
unfolding with_signal
signal-at done x rest t o j e =
    rw (get_or_at done x rest 0 j e, set_at done x rest o j e, append_assoc done (o ∷ []) rest)

-- Its equation before those of the m signals after it.
signals-one : (ν : ℕ → Bool) (done t : List ℕ) (o j m : ℕ) (b : Bool) → ν j ≡ b →
    header_of (with_equations (cond b (with_equations t o (equation SIGNAL j 0 0 ∷ [])) t) (cond b (suc o) o)
    (signals-es ν (suc j) m))
    ((done ++ (o ∷ [])) ++ places ν (suc j) (cond b (suc o) o) m)
    (place_after (cond b (suc o) o) (signals-es ν (suc j) m))
    ≡ header_of (with_equations t o (signals-es ν j (suc m))) (done ++ places ν j o (suc m))
    (place_after o (signals-es ν j (suc m)))
signals-one ν done t o j m true e =
    rw (
      e,
      append_assoc done (o ∷ []) (places ν (suc j) (suc o) m),
      equations-append (equation SIGNAL j 0 0 ∷ []) (signals-es ν (suc j) m) t o,
    )
signals-one ν done t o j m false e = rw (e, append_assoc done (o ∷ []) (places ν (suc j) o m))

pub settle_is : (ν : ℕ → Bool) (rest done t : List ℕ) (o j : ℕ) → length done ≡ j
    → ((i : ℕ) → i < length rest → ν (j + i) ≡ nonzero (number_at rest i)) →
    settle (length rest) j (header_of t (done ++ rest) o)
    ≡ header_of (with_equations t o (signals-es ν j (length rest))) (done ++ places ν j o (length rest))
    (place_after o (signals-es ν j (length rest)))
unfolding settle with_equations
settle_is ν [] done t o j e h = refl
settle_is ν (x ∷ rest) done t o j e h =
    let m : ℕ = length rest in
    let this : ν j ≡ nonzero x = ap ν (sym (add-zero j)) ∙ h 0 (omega arith) in
    let those : (i : ℕ) → i < m → ν (suc j + i) ≡ nonzero (number_at rest i) =
    λ i k. ap ν (suc-add j i ∙ sym (add-suc j i)) ∙ h (suc i) (omega arith) in
    let long : length (done ++ (o ∷ [])) ≡ suc j = length-append done (o ∷ []) ∙ rw e (omega arith) in
    let t' : List ℕ = cond (nonzero x) (with_equations t o (equation SIGNAL j 0 0 ∷ [])) t in
    let o' : ℕ = cond (nonzero x) (suc o) o in
    ap (settle m (suc j)) (signal-at done x rest t o j e)
    ∙ settle_is ν rest (done ++ (o ∷ [])) t' o' (suc j) long those
    ∙ signals-one ν done t o j m (nonzero x) this
