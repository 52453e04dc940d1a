-- Writing is injective and prefix-free: what was written can be read back, whatever follows.
use Rattle.std.proofs.Common.{◌≡◌, ℕ, zero, suc, ◌+◌, ◌<◌, ◌≤◌, List, [], ◌∷◌, ◌++◌, length, get_or, take, drop, sym, refl, ap, ◌∙◌, arith}
use Rattle.std.proofs.lemmas.List.{append_assoc, append-nil, length-append, take_at, drop_at}
use Rattle.calculus.specs.Trees.{Process, terminated, output, input, choice, parallel, restriction, replication, write}

-- a process and what follows it; past the fuel, and where there is no node, any answer will do
unfoldable pub read_writing : ℕ → List ℕ → Process × List ℕ
read_writing zero ns = (terminated, ns)
read_writing (suc k) [] = (terminated, [])
read_writing (suc k) (zero ∷ ns) = (terminated, ns)
read_writing (suc k) (suc zero ∷ ns) =
    let r = read_writing k (drop (get_or ns 1 0) (drop 2 ns)) in
    (output (get_or ns 0 0) (take (get_or ns 1 0) (drop 2 ns)) r.0, r.1)
read_writing (suc k) (suc (suc zero) ∷ ns) = let r = read_writing k (drop 2 ns) in (input (get_or ns 0 0) (get_or ns 1 0) r.0, r.1)
read_writing (suc k) (suc (suc (suc zero)) ∷ ns) = let l = read_writing k ns in let r = read_writing k l.1 in (choice l.0 r.0, r.1)
read_writing (suc k) (suc (suc (suc (suc zero))) ∷ ns) = let l = read_writing k ns in let r = read_writing k l.1 in (parallel l.0 r.0, r.1)
read_writing (suc k) (suc (suc (suc (suc (suc zero)))) ∷ ns) = let r = read_writing k (drop 1 ns) in (restriction (get_or ns 0 0) r.0, r.1)
read_writing (suc k) (suc (suc (suc (suc (suc (suc n))))) ∷ ns) = let r = read_writing k ns in (replication r.0, r.1)

pub written_some : (p : Process) → 0 < length (write p)
unfolding write
written_some terminated = omega arith
written_some (output s os p) = omega arith
written_some (input s n p) = omega arith
written_some (choice p q) = omega arith
written_some (parallel p q) = omega arith
written_some (restriction s p) = omega arith
written_some (replication p) = omega arith

reads_back : (k : ℕ) (p : Process) (r : List ℕ) → length (write p) ≤ k → read_writing k (write p ++ r) ≡ (p, r)
unfolding write read_writing
reads_back zero p r h = absurd (omega (arith, written_some p))
reads_back (suc k) terminated r h = refl
reads_back (suc k) (output s os p) r h =
    let short : length (write p) ≤ k = omega (arith, length-append os (write p)) in
    let below : read_writing k (write p ++ r) ≡ (p, r) = reads_back k p r short in
    rw (append_assoc os (write p) r, take_at os (write p ++ r) (length os) refl, drop_at os (write p ++ r) (length os) refl, below) refl
reads_back (suc k) (input s n p) r h =
    let below : read_writing k (write p ++ r) ≡ (p, r) = reads_back k p r (omega arith) in
    rw below refl
reads_back (suc k) (choice p q) r h =
    let sum : length (write p ++ write q) ≡ length (write p) + length (write q) = length-append (write p) (write q) in
    let left : read_writing k (write p ++ (write q ++ r)) ≡ (p, write q ++ r) = reads_back k p (write q ++ r) (omega arith) in
    let right : read_writing k (write q ++ r) ≡ (q, r) = reads_back k q r (omega arith) in
    rw (append_assoc (write p) (write q) r, left, right) refl
reads_back (suc k) (parallel p q) r h =
    let sum : length (write p ++ write q) ≡ length (write p) + length (write q) = length-append (write p) (write q) in
    let left : read_writing k (write p ++ (write q ++ r)) ≡ (p, write q ++ r) = reads_back k p (write q ++ r) (omega arith) in
    let right : read_writing k (write q ++ r) ≡ (q, r) = reads_back k q r (omega arith) in
    rw (append_assoc (write p) (write q) r, left, right) refl
reads_back (suc k) (restriction s p) r h =
    let below : read_writing k (write p ++ r) ≡ (p, r) = reads_back k p r (omega arith) in
    rw below refl
reads_back (suc k) (replication p) r h =
    let below : read_writing k (write p ++ r) ≡ (p, r) = reads_back k p r (omega arith) in
    rw below refl

pub prefix_free : (p q : Process) (r s : List ℕ) → write p ++ r ≡ write q ++ s → (p ≡ q) × (r ≡ s)
prefix_free p q r s e =
    let k = length (write p) + length (write q) in
    let both : ◌≡◌ {A = Process × List ℕ} (p, r) (q, s)
    = sym (reads_back k p r (omega arith)) ∙ ap (read_writing k) e ∙ reads_back k q s (omega arith) in
    (ap (λ (x : Process × List ℕ). x.0) both, ap (λ (x : Process × List ℕ). x.1) both)

pub injective : (p q : Process) → write p ≡ write q → p ≡ q
injective p q e = (prefix_free p q [] [] (append-nil (write p) ∙ e ∙ sym (append-nil (write q)))).0
