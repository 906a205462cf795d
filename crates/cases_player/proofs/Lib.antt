mod OppositeLaw
