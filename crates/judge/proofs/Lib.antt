mod InputLaw
