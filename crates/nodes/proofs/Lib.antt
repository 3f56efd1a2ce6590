mod PrefixLaw
