-- `printed::put_hex` ends: each call has a digit less to put.
use Rattle.printed.proofs.+put_hex.Given as goal

abbrev pub decreases-put_hex : goal.decreases-put_hex
decreases-put_hex l = l.k
