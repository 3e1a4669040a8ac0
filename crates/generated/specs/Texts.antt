-- The texts of the rules file and of the script that go with a generated capture.
use Rattle.std.specs.Prelude.{ℕ, ◌+◌, ◌*◌, List, ◌++◌, codes, decimal}
use Rattle.generated.specs.Numbers.{first_port}

-- every packet goes to one of eight queues, by its flow
unfoldable pub rules_text : List ℕ
rules_text =
    codes "*filter\n"
    ++ codes "-A FORWARD -j NFQUEUE --queue-balance 0:7\n"
    ++ codes "COMMIT\n"

-- the port of block k, counted from 0, and its two queues
abbrev pub port_of : ℕ → ℕ
port_of k = first_port + k

abbrev pub even_queue : ℕ → ℕ
even_queue k = 2 * k

abbrev pub odd_queue : ℕ → ℕ
odd_queue k = 2 * k + 1

-- the port binds this queue, and its notices have 64 bytes of a packet at most
abbrev pub open_text : ℕ → List ℕ
open_text queue = codes "open config " ++ decimal queue ++ codes " bind params packet 64\n"

-- block k: the port binds its queues, drops UDP and accepts all else
abbrev pub block_text : ℕ → List ℕ
block_text k =
    codes "port " ++ decimal (port_of k) ++ codes "\n"
    ++ open_text (even_queue k)
    ++ open_text (odd_queue k)
    ++ codes "on proto 17 do verdict this drop this\n"
    ++ codes "on any do verdict this accept this\n"

-- four ports with two queues each
unfoldable pub script_text : List ℕ
script_text = codes "hashkey 1\n" ++ block_text 0 ++ block_text 1 ++ block_text 2 ++ block_text 3
