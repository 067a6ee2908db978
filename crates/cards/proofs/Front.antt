-- The tick line at the front of some bytes. Each tick line begins with bytes that are a line with no velocity, and none
-- of these is a line end: so byte 10 is directly behind them, or behind the velocity. Assumes nothing.
use mathlib.Core.Path.{◌≡◌, refl, ◌∙◌, sym, ap, subst}
use mathlib.Core.Bool.{Bool, true, false, cond}
use mathlib.Core.List.{List, [], ◌∷◌}
use Prim.Native.Nat.{ℕ, zero, suc, ◌+◌, ◌*◌, ◌-◌, ◌≤◌, ◌<◌}
use native.Mathlib.Omega.{arith}
use lib.Dec.{eqb, ltb}
use lib.ListN.{length, take, drop, length-take, length-drop}
use lib.Seq.{take-take, take_all, drop-drop}
use borrow.Author.Tests.{eqb-true, eqb-false, ltb-true, ltb-false, lt-ltb, ne_eqb}
use Rattle.std.specs.Prelude.{Option, Some, None}
use Rattle.lists.specs.Line.{line}
use Rattle.lists.specs.Decimal.{digit_value}
use Rattle.lists.specs.Text.{byte, line_end}
use Rattle.lists.proofs.Lines.{take-line}
use Rattle.cards.specs.Heads.{plain_edition}
use Rattle.cards.specs.Numbers.{Parsed, before, wholly}
use Rattle.cards.specs.Numbers.Parsed.{done, none}
use Rattle.cards.specs.Ticks.{line_of, hex_of, hexes, tick_length, plain_tick, velocity_in, struck_by, struck_tick}
use Rattle.cards.specs.Ticks.{tick_line}
use Rattle.cards.specs.Place.{read_to, next_in, ReadsAs, plain_read, struck_read, tick_read}
use Rattle.cards.specs.Place.{tick_first, found_as, tick_at}
use Rattle.cards.specs.declared.Found.{Found}
use Rattle.cards.specs.declared.TickLine.{TickLine}
use Rattle.cards.proofs.Hex.{hex-low, passed, not-failed, plain-length}
use Rattle.cards.proofs.Lines.{drop-line}
use Rattle.cards.proofs.Velocities.{Within, velocity-within}

-- ---- no byte of a tick line is a line end

not_end : (b : ℕ) → ltb 15 (hex_of b) ≡ false → b ≡ line_end → ⊥
not_end b e z = omega (arith, ltb-false 15 (hex_of b) e, hex-low b (omega arith))

hexes-line : (start x : ℕ) (l : List ℕ) {k : TickLine} → hexes start x l ≡ Some k → line l ≡ l
unfolding hexes line
hexes-line start x [] e = refl
hexes-line start x (b ∷ l) e =
    let p = not-failed (ltb 15 (hex_of b)) e in
    rw (ne_eqb b line_end (not_end b p.0)) (ap (λ (r : List ℕ). b ∷ r) (hexes-line start (x * 16 + hex_of b) l p.1))

plain-line : (l : List ℕ) {k : TickLine} → plain_tick l ≡ Some k → line l ≡ l
unfolding plain_tick line
plain-line [] e = refl
plain-line (a ∷ []) e = cc
plain-line (a ∷ b ∷ []) e = cc
plain-line (a ∷ b ∷ c ∷ []) e = cc
plain-line (a ∷ b ∷ c ∷ d ∷ l) e =
    let first = passed (eqb a (byte "t")) (passed (eqb (length (a ∷ b ∷ c ∷ d ∷ l)) tick_length) e).1 in
    let second = passed (eqb b (byte "=")) first.1 in
    let fourth = passed (eqb d (byte ",")) second.1 in
    let low = not-failed (ltb c (byte "0")) fourth.1 in
    let high = not-failed (ltb (byte "1") c) low.1 in
    let p : a ≡ line_end → ⊥ = λ z. omega (arith, eqb-true a (byte "t") first.0) in
    let q : b ≡ line_end → ⊥ = λ z. omega (arith, eqb-true b (byte "=") second.0) in
    let r : c ≡ line_end → ⊥ = λ z. omega (arith, ltb-false c (byte "0") low.0) in
    let s : d ≡ line_end → ⊥ = λ z. omega (arith, eqb-true d (byte ",") fourth.0) in
    rw (ne_eqb a line_end p, ne_eqb b line_end q, ne_eqb c line_end r, ne_eqb d line_end s)
    (ap (λ (m : List ℕ). a ∷ b ∷ c ∷ d ∷ m) (hexes-line (digit_value c) 0 l high.1))

-- ---- where the first line goes on

-- With no line end among n bytes, the line has them.
has_split : (b n : ℕ) (s : List ℕ) (t : Bool) → eqb b line_end ≡ t → line (b ∷ take n s) ≡ b ∷ take n s
    → (line (take n s) ≡ take n s → length (take n s) ≤ length (line s))
    → length (b ∷ take n s) ≤ length (line (b ∷ s))
unfolding line
has_split b n s true e h ih = absurd (let g = ap length (rw e at h) in omega arith)
has_split b n s false e h ih =
    let g = rw e at h in
    let k : line (take n s) ≡ take n s = cc in
    rw e (omega (arith, ih k))

has-front : (n : ℕ) (s : List ℕ) → line (take n s) ≡ take n s → length (take n s) ≤ length (line s)
unfolding line
has-front zero s h = omega arith
has-front (suc n) [] h = omega arith
has-front (suc n) (b ∷ s) h = has_split b n s (eqb b line_end) refl h (has-front n s)

-- So it has the bytes that each tick line has, where they are a line with no velocity,
front_long : (s : List ℕ) {k : TickLine} → plain_tick (take tick_length s) ≡ Some k → tick_length ≤ length (line s)
front_long s q =
    let front = take tick_length s in
    omega (arith, has-front tick_length s (plain-line front q), plain-length front q)

-- and then these stand at the front of both,
take-front : (s : List ℕ) → tick_length ≤ length (line s) → take tick_length (line s) ≡ take tick_length s
take-front s long = ap (take tick_length) (sym (take-line s)) ∙ take-take tick_length (length (line s)) s long

-- ---- what is read at the front of some bytes, and of their first line

-- Where the first bytes are no line with no velocity, no tick is read.
unread : (velocities e : ℕ) (l : List ℕ) → plain_tick (take tick_length l) ≡ None → tick_read velocities e l ≡ none
unfolding tick_read
unread velocities e l q = by-edition (eqb e plain_edition)
  where
    by-edition : (t : Bool)
        → cond t (plain_read (plain_tick (take tick_length l)) (drop tick_length l))
        (struck_read (plain_tick (take tick_length l)) (velocity_in velocities (drop tick_length l))) ≡ none
    by-edition true = rw q
    by-edition false = rw q

few_bytes : (l : List ℕ) → length l < tick_length → plain_tick l ≡ None
unfolding plain_tick
few_bytes l h = rw (ne_eqb (length l) tick_length (λ z. omega arith))

-- In the first line they are none either.
front_none : (b : List ℕ) → plain_tick (take tick_length b) ≡ None → plain_tick (take tick_length (line b)) ≡ None
front_none b q = by_front (plain_tick (take tick_length (line b))) refl
  where
    by_front : (x : Option TickLine) → plain_tick (take tick_length (line b)) ≡ x → x ≡ None
    by_front None e = refl
    by_front (Some k) e =
        let long : tick_length ≤ length (line b) =
        omega (arith, plain-length (take tick_length (line b)) e, length-take tick_length (line b)) in
        sym e ∙ ap plain_tick (take-front b long) ∙ q

-- Where they are one, the line goes on behind them.
module _ (b r : List ℕ) (size : length b ≡ tick_length + length r)
    (whole : length (line b) ≡ tick_length + length (line r)) (k : TickLine) where
  struck_within : (p q : Parsed ℕ) → Within r p q → Within b (struck_read (Some k) p) (struck_read (Some k) q)
  struck_within (done v l) q h = rw h.0 (refl, omega (arith, h.1))
  struck_within none q h = rw h

  behind_within : (velocities : ℕ) (t : Bool)
      → Within b (cond t (done k r) (struck_read (Some k) (velocity_in velocities r)))
      (cond t (done k (line r)) (struck_read (Some k) (velocity_in velocities (line r))))
  behind_within velocities true = (refl, omega arith)
  behind_within velocities false = struck_within _ _ (velocity-within velocities r)

-- So the same tick is read.
tick_within : (velocities e : ℕ) (b : List ℕ) → Within b (tick_read velocities e b) (tick_read velocities e (line b))
unfolding tick_read
tick_within velocities e b = by_front (plain_tick (take tick_length b)) refl
  where
    by_front : (x : Option TickLine) → plain_tick (take tick_length b) ≡ x
        → Within b (tick_read velocities e b) (tick_read velocities e (line b))
    by_front None q = rw (unread velocities e b q, unread velocities e (line b) (front_none b q)) refl
    by_front (Some k) q =
        let long = front_long b q in
        let front : plain_tick (take tick_length (line b)) ≡ Some k = ap plain_tick (take-front b long) ∙ q in
        let rest = drop tick_length b in
        let behind : drop tick_length (line b) ≡ line rest = drop-line tick_length b long in
        let whole : length (line b) ≡ tick_length + length (line rest) =
        omega (arith, long, ap length behind, length-drop tick_length (line b)) in
        let size : length b ≡ tick_length + length rest =
        omega (arith, plain-length (take tick_length b) q, length-take tick_length b, length-drop tick_length b) in
        rw (front, q, behind) (behind_within b rest size whole k velocities (eqb e plain_edition))

-- A tick line is a tick that is read, and nothing behind it.
plain_ended : (x : Option TickLine) → wholly (plain_read x []) ≡ x
unfolding wholly
plain_ended (Some k) = refl
plain_ended None = refl

plain_unended : (x : Option TickLine) (b : ℕ) (r : List ℕ) → wholly (plain_read x (b ∷ r)) ≡ None
unfolding wholly
plain_unended (Some k) b r = refl
plain_unended None b r = refl

plain_whole : (l r : List ℕ) → drop tick_length l ≡ r
    → plain_tick l ≡ wholly (plain_read (plain_tick (take tick_length l)) r)
unfolding plain_tick
plain_whole l [] q =
    let few : length l ≤ tick_length = omega (arith, ap length q, length-drop tick_length l) in
    let all : take tick_length l ≡ l = take_all tick_length l few in
    sym (plain_ended (plain_tick (take tick_length l)) ∙ ap plain_tick all)
plain_whole l (b ∷ r) q =
    let more : length l ≡ tick_length → ⊥ = λ z. omega (arith, ap length q, length-drop tick_length l) in
    rw (ne_eqb (length l) tick_length more) (sym (plain_unended _ b r))

struck_whole : (x : Option TickLine) (p : Parsed ℕ) → struck_by x (wholly p) ≡ wholly (struck_read x p)
unfolding wholly
struck_whole (Some k) (done v []) = refl
struck_whole (Some k) (done v (b ∷ r)) = refl
struck_whole (Some k) none = refl
struck_whole None p = refl

pub line_read : (velocities e : ℕ) (l : List ℕ) → tick_line velocities e l ≡ wholly (tick_read velocities e l)
unfolding tick_line struck_tick tick_read
line_read velocities e l = by-edition (eqb e plain_edition)
  where
    by-edition : (t : Bool)
        → cond t (plain_tick l)
        (struck_by (plain_tick (take tick_length l)) (wholly (velocity_in velocities (drop tick_length l))))
        ≡ wholly
        (cond t (plain_read (plain_tick (take tick_length l)) (drop tick_length l))
        (struck_read (plain_tick (take tick_length l)) (velocity_in velocities (drop tick_length l))))
    by-edition true = plain_whole l (drop tick_length l) refl
    by-edition false = struck_whole _ _

-- ---- a tick line at a place

-- The first line of s is whole, and a tick line.
pub record First (velocities e : ℕ) (s : List ℕ) (k : TickLine) : Type 0 where
  pub whole : length (line s) < length s
  pub tick : tick_line velocities e (line s) ≡ Some k

is-first : (velocities e : ℕ) (s : List ℕ) {k : TickLine} → tick_first velocities e s ≡ Some k
    → First velocities e s k
unfolding tick_first
is-first velocities e s h =
    let p = passed (ltb (length (line s)) (length s)) h in
    record { whole = ltb-true _ _ p.0; tick = p.1 }

found_as_lem : (n : ℕ) (x : Option TickLine) {f : Found TickLine} → Some f ≡ found_as n x
    → (x ≡ Some f.value) × (f.next ≡ n)
found_as_lem n (Some k) {f} h =
    let is : record { value = k; next = n } ≡ f = cc in
    subst (λ (f : Found TickLine). (Some k ≡ Some f.value) × (f.next ≡ n)) is (refl, refl)
found_as_lem n None h = (cc, cc)

broken-as : (n : ℕ) (x : Option TickLine) → None ≡ found_as n x → x ≡ None
broken-as n (Some k) h = cc
broken-as n None h = refl

module _ (velocities e : ℕ) (b : List ℕ) (at : ℕ) where
  -- It is not found,
  pub none_first : None ≡ tick_at velocities e b at → tick_first velocities e (drop at b) ≡ None
  none_first h = broken-as (at + length (line (drop at b)) + 1) (tick_first velocities e (drop at b)) h

  -- or it is found, with the place after it.
  pub first-tick : {f : Found TickLine} → Some f ≡ tick_at velocities e b at
      → First velocities e (drop at b) f.value × (f.next ≡ at + length (line (drop at b)) + 1)
  first-tick h =
      let both = found_as_lem (at + length (line (drop at b)) + 1) (tick_first velocities e (drop at b)) h in
      (is-first velocities e (drop at b) both.0, both.1)

-- What is read before a line end is the tick line at the place.
module _ (velocities e : ℕ) (s : List ℕ) (at : ℕ) where
  -- Where no tick line can be first, there is none.
  no_tick : ((k : TickLine) → First velocities e (drop at s) k → ⊥) → None ≡ tick_at velocities e s at
  no_tick h = by_first (tick_first velocities e (drop at s)) refl
    where
      by_first : (x : Option TickLine) → tick_first velocities e (drop at s) ≡ x
          → None ≡ found_as (at + length (line (drop at s)) + 1) x
      by_first (Some k) q = absurd (h k (is-first velocities e (drop at s) q))
      by_first None q = refl

  -- A tick that was read, and what its line says.
  module _ {k : TickLine} {r : List ℕ} (q : tick_read velocities e (drop at s) ≡ done k r) where
    within : Within (drop at s) (done k r) (tick_read velocities e (line (drop at s)))
    within = rw q at (tick_within velocities e (drop at s))

    says : tick_line velocities e (line (drop at s)) ≡ wholly (done k (line r))
    says = line_read velocities e (line (drop at s)) ∙ ap wholly within.0

  nothing_read : tick_read velocities e (drop at s) ≡ none → None ≡ tick_at velocities e s at
  unfolding wholly
  nothing_read q =
      let same : tick_read velocities e (line (drop at s)) ≡ none = rw q at (tick_within velocities e (drop at s)) in
      no_tick (λ k h. let is = rw same at (sym (line_read velocities e (line (drop at s))) ∙ h.tick) in cc)

  nothing_behind : {k : TickLine} → tick_read velocities e (drop at s) ≡ done k [] → None ≡ tick_at velocities e s at
  unfolding line
  nothing_behind q = no_tick (λ k h. omega (arith, h.whole, (within q).1))

  other_behind : {k : TickLine} {c : ℕ} {r : List ℕ} → tick_read velocities e (drop at s) ≡ done k (c ∷ r)
      → (c ≡ line_end → ⊥) → None ≡ tick_at velocities e s at
  unfolding line wholly
  other_behind {c = c} q n =
      no_tick (λ k h. let is = rw (ne_eqb c line_end n) at (sym (says q) ∙ h.tick) in cc)

  line_found : {f : Found TickLine} {k : TickLine} {r : List ℕ}
      → tick_read velocities e (drop at s) ≡ done k (line_end ∷ r) → f.value ≡ k → drop f.next s ≡ r
      → f.next ≤ length s → Some f ≡ tick_at velocities e s at
  unfolding line wholly tick_first
  line_found {f} {k} {r} q v d n =
      let size = (within q).1 in
      let z : f.next ≡ at + length (line (drop at s)) + 1 =
      omega (arith, size, ap length d, length-drop f.next s, length-drop at s) in
      let less : length (line (drop at s)) < length (drop at s) = omega (arith, size) in
      rw (lt-ltb _ _ less, says q, ← z, ← v) refl

  pub found_before : {r : Option (Found TickLine)}
      → ReadsAs r s (before line_end (tick_read velocities e (drop at s))) → r ≡ tick_at velocities e s at
  unfolding before
  found_before {r} h = by_read (tick_read velocities e (drop at s)) r refl h.means h.within
    where
      by_read : (p : Parsed TickLine) (r : Option (Found TickLine)) → tick_read velocities e (drop at s) ≡ p
          → read_to r s ≡ before line_end p → next_in r (length s) ≤ length s → r ≡ tick_at velocities e s at
      by_read none None q m n = nothing_read q
      by_read none (Some f) q m n = cc
      by_read (done k []) None q m n = nothing_behind q
      by_read (done k []) (Some f) q m n = cc
      by_read (done k (c ∷ l)) r q m n = by_end (eqb c line_end) r refl m n
        where
          by_end : (t : Bool) (r : Option (Found TickLine)) → eqb c line_end ≡ t
              → read_to r s ≡ cond t (done k l) none → next_in r (length s) ≤ length s → r ≡ tick_at velocities e s at
          by_end true None z m n = cc
          by_end true (Some f) z m n =
              line_found (q ∙ ap (λ (n : ℕ). done k (n ∷ l)) (eqb-true c line_end z)) (cc) (cc) n
          by_end false None z m n = other_behind q (eqb-false c line_end z)
          by_end false (Some f) z m n = cc

-- ---- a tick at a place

module _ (velocities e : ℕ) (s : List ℕ) (at : ℕ) where
  -- Too few bytes are there.
  pub read_few : length s < at + tick_length → ReadsAs {A = TickLine} None s (tick_read velocities e (drop at s))
  read_few h =
      let short : length (take tick_length (drop at s)) < tick_length =
      omega (arith, length-take tick_length (drop at s), length-drop at s) in
      record { means = sym (unread velocities e (drop at s) (few_bytes _ short)); within = omega arith }

  -- The front of what stands from the place on.
  module _ {b front : List ℕ} (part : b ≡ take (length s - at) (drop at s)) (first : front ≡ take tick_length b) where
    front_is : take tick_length (drop at s) ≡ front
    front_is =
        let all : take (length s - at) (drop at s) ≡ drop at s =
        take_all (length s - at) (drop at s) (omega (arith, length-drop at s)) in
        sym (first ∙ ap (take tick_length) (part ∙ all))

    -- It is no line with no velocity.
    pub read_broken : None ≡ plain_tick front → ReadsAs {A = TickLine} None s (tick_read velocities e (drop at s))
    read_broken q =
        record { means = sym (unread velocities e (drop at s) (ap plain_tick front_is ∙ sym q)); within = omega arith }

    -- It is one, with no velocity behind it, and with one.
    module _ {k : TickLine} (q : Some k ≡ plain_tick front) where
      pub read_plain : e ≡ plain_edition → at + tick_length ≤ length s
          → ReadsAs (Some (record { value = k; next = at + tick_length })) s (tick_read velocities e (drop at s))
      unfolding tick_read
      read_plain p h = record { means = rw (p, front_is, ← q, drop-drop tick_length at s); within = h }

      module _ (other : e ≡ plain_edition → ⊥) where
        pub read_unstruck : ReadsAs None s (velocity_in velocities (drop (at + tick_length) s))
            → ReadsAs {A = TickLine} None s (tick_read velocities e (drop at s))
        unfolding tick_read
        read_unstruck r =
            record {
              means = rw (ne_eqb e plain_edition other, front_is, ← q, drop-drop tick_length at s, ← r.means);
              within = omega arith;
            }

        pub read_struck : {f : Found ℕ} → ReadsAs (Some f) s (velocity_in velocities (drop (at + tick_length) s))
            → ReadsAs (Some (record { value = line_of k.start k.signals f.value; next = f.next })) s
            (tick_read velocities e (drop at s))
        unfolding tick_read
        read_struck r =
            record {
              means = rw (ne_eqb e plain_edition other, front_is, ← q, drop-drop tick_length at s, ← r.means);
              within = r.within;
            }

pub ruleset tick = (read_few, read_broken, read_plain, read_unstruck, read_struck)
