-- The ids under which packets wait: 32-bit numbers, which begin again at 0 after the largest.
use Rattle.std.specs.Prelude.{◌≡◌, ◌≤◌, ℕ, suc, zero, ◌+◌, ◌-◌, ◌%◌, ◌/◌, ◌<◌, ◌&&◌, List, length}
use Rattle.std.specs.Prelude.{Bool, nat_eq, nat_lt, if◌then◌else◌}
use Rattle.std.specs.List.{list_any}
use Rattle.queue_core.specs.Numbers.{id_count}

-- Whether an id is after another: the way from the other to it, counted up, is shorter than half of
-- all ids, and isn't 0 (nfq_id_after in nfnetlink_queue.c).
abbrev pub after : ℕ → ℕ → Bool
after id other =
    let way = (id + id_count - other) % id_count in nat_lt 0 way && nat_lt way (id_count / 2)

-- whether a number is this id
abbrev pub is_id : ℕ → ℕ → Bool
is_id id n = nat_eq id n

-- whether the id is one of these
abbrev pub is_among : List ℕ → ℕ → Bool
is_among ids id = list_any (is_id id) ids

-- the id after this one
abbrev pub id_after : ℕ → ℕ
id_after id = (id + 1) % id_count

-- from this id on, the first that isn't among ids; after so many looks, the one that comes then
abbrev pub free_from : ℕ → ℕ → List ℕ → ℕ
free_from zero id ids = id
free_from (suc looks) id ids = if is_among ids id then free_from looks (id_after id) ids else id

-- The first id after the last one that isn't among ids. Of more numbers than ids has, one is free.
-- (nfqnl_enqueue_packet counts its id_sequence up; that an id that waits is passed over is ours.)
abbrev pub fresh : ℕ → List ℕ → ℕ
fresh last ids = free_from (length ids) (id_after last) ids

-- the id is free, and each between the last one and it isn't
pub record IsFirstFree (last : ℕ) (ids : List ℕ) (id : ℕ) : Type 0 where
  pub way : ℕ
  pub short : way ≤ length ids
  pub is : id ≡ (last + 1 + way) % id_count
  pub free : is_among ids id ≡ Bool.false
  pub passed : (n : ℕ) → n < way → is_among ids ((last + 1 + n) % id_count) ≡ Bool.true
