use Rattle.text.proofs.text.+put_number.Given as goal

-- it calls itself at x / 10
abbrev pub decreases-put_number : goal.decreases-put_number
decreases-put_number l = l.x
