-- What the passes over the keys of an archive gather. Assumes nothing.
use Rattle.std.specs.Prelude.{ℕ, ◌+◌, ◌-◌, ◌/◌, ◌%◌, ◌≤◌, ◌<◌, ◌≡◌, ◌⊎◌, List, length, get_or, take}
use Rattle.well_kept.specs.Keys.{key_at, no_key, times, keys_in}
use Rattle.well_kept.specs.declared.Window.{Window}

-- ---- one pass in the order of the records
-- the records below n come, for each station, key by key: `last` has the last key of each station, 0 where it has none
pub record Rising (a : List ℕ) (n : ℕ) (last : List ℕ) : Type 0 where
  pub wide : length last ≡ 8
  pub under : (i : ℕ) → i < n → key_at a i ≤ get_or last (key_at a i / 65536 % 8) 0
  pub met : (s : ℕ) → s < 8 → (get_or last s 0 ≡ 0) ⊎ ((i : ℕ) × (i < n) × (key_at a i ≡ get_or last s 0))
  pub once : (i j : ℕ) → i < j → j < n → (key_at a i ≡ key_at a j → ⊥)
  pub next : (i : ℕ) → i < n → (key_at a i % 65536 ≡ 1) ⊎ ((j : ℕ) × (j < n) × (key_at a j + 1 ≡ key_at a i))

-- ---- windows of keys
-- of the records below n: how many keys are above lo and up to hi, and no key above hi is below `next`; while they have places, the list begins with them
pub record Gathered (a : List ℕ) (lo hi n : ℕ) (w : Window) (list : List ℕ) : Type 0 where
  pub many : w.count ≡ length (keys_in a lo hi n)
  pub least : w.next ≤ no_key
  pub above : hi < w.next
  pub none : (i : ℕ) → i < n → hi < key_at a i → w.next ≤ key_at a i
  pub listed : w.count ≤ length list → take w.count list ≡ keys_in a lo hi n

-- a key stands where it may: once, and first or with the one before it
pub record Stands (a : List ℕ) (x : ℕ) : Type 0 where
  pub once : times a x ≤ 1
  pub next : 1 ≤ times a x → (x % 65536 ≡ 1) ⊎ (1 ≤ times a (x - 1))

-- all keys up to lo do, and p is the greatest of them, 0 where there is none
pub record Checked (a : List ℕ) (lo p : ℕ) : Type 0 where
  pub stand : (x : ℕ) → x ≤ lo → Stands a x
  pub below : p ≤ lo
  pub none : (x : ℕ) → p < x → x ≤ lo → times a x ≡ 0
  pub some : (p ≡ 0) ⊎ (1 ≤ times a p)
