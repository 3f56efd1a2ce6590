mod EndLaw
